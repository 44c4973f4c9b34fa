use Rattle.std.proofs.Common.{◌≡◌, drop, map}
use Rattle.sml_restrict_core.specs.Breaches.{after, joined}
use Rattle.sml_restrict_core.specs.Patterns.{field_breaches, pat_breaches}
use Rattle.sml_restrict_core.proofs.pat.+check_pat.Given as goal

abbrev pub invariant-check_pats-loop-one : goal.invariant-check_pats-loop-one
invariant-check_pats-loop-one l = after l.found (joined (map pat_breaches (drop l.one-index l.pats))) ≡ after l.fn.found (joined (map pat_breaches l.pats))

abbrev pub invariant-check_fields-loop-one : goal.invariant-check_fields-loop-one
invariant-check_fields-loop-one l = after l.found (joined (map (λ f. f.1) (map field_breaches (drop l.one-index l.fields)))) ≡ after l.fn.found (joined (map (λ f. f.1) (map field_breaches l.fields)))

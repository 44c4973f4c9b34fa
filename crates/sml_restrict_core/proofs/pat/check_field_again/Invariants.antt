use Rattle.std.proofs.Common.{◌≡◌, drop, map}
use Rattle.sml_restrict_core.specs.Breaches.{after}
use Rattle.sml_restrict_core.specs.Patterns.{field_again, field_breaches}
use Rattle.sml_restrict_core.proofs.pat.check_field_again.Given as goal

abbrev pub invariant-loop-other : goal.invariant-loop-other
invariant-loop-other l = after l.found (field_again (field_breaches l.first).0 (map (λ f. f.0) (map field_breaches (drop l.other-index l.others)))) ≡ after l.initial.found (field_again (field_breaches l.first).0 (map (λ f. f.0) (map field_breaches l.others)))

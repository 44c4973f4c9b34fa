use Rattle.std.proofs.Common.{◌≡◌, drop, map}
use Rattle.sml_restrict_core.specs.Breaches.{joined}
use Rattle.sml_restrict_core.specs.Patterns.{field_tyvars, pat_tyvars}
use Rattle.sml_restrict_core.specs.Repeats.{contains}
use Rattle.sml_restrict_core.proofs.pat.+occurs_in_pat.Given as goal

abbrev pub invariant-occurs_in_pats-loop-one : goal.invariant-occurs_in_pats-loop-one
invariant-occurs_in_pats-loop-one l = contains l.name (joined (map pat_tyvars (drop l.one-index l.pats))) ≡ contains l.name (joined (map pat_tyvars l.pats))

abbrev pub invariant-occurs_in_fields-loop-one : goal.invariant-occurs_in_fields-loop-one
invariant-occurs_in_fields-loop-one l = contains l.name (joined (map field_tyvars (drop l.one-index l.fields))) ≡ contains l.name (joined (map field_tyvars l.fields))

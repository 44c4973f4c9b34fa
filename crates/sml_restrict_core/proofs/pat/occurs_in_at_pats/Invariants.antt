use Rattle.std.proofs.Common.{◌≡◌, drop, map}
use Rattle.sml_restrict_core.specs.Breaches.{joined}
use Rattle.sml_restrict_core.specs.Patterns.{at_pat_tyvars}
use Rattle.sml_restrict_core.specs.Repeats.{contains}
use Rattle.sml_restrict_core.proofs.pat.occurs_in_at_pats.Given as goal

abbrev pub invariant-loop-one : goal.invariant-loop-one
invariant-loop-one l = contains l.name (joined (map at_pat_tyvars (drop l.one-index l.pats))) ≡ contains l.name (joined (map at_pat_tyvars l.pats))

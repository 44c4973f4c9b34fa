use Rattle.std.proofs.Common.{◌≡◌, drop, map}
use Rattle.sml_restrict_core.specs.Breaches.{after, joined}
use Rattle.sml_restrict_core.specs.Patterns.{at_pat_breaches}
use Rattle.sml_restrict_core.proofs.pat.check_at_pats.Given as goal

abbrev pub invariant-loop-one : goal.invariant-loop-one
invariant-loop-one l = after l.found (joined (map at_pat_breaches (drop l.one-index l.pats))) ≡ after l.initial.found (joined (map at_pat_breaches l.pats))

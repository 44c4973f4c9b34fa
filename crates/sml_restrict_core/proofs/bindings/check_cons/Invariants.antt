use Rattle.std.proofs.Common.{◌≡◌, drop, map}
use Rattle.sml_restrict_core.specs.Breaches.{after, joined}
use Rattle.sml_restrict_core.specs.Bindings.{con_breaches}
use Rattle.sml_restrict_core.proofs.bindings.check_cons.Given as goal

abbrev pub invariant-loop-one : goal.invariant-loop-one
invariant-loop-one l = after l.found (joined (map (con_breaches l.params) (drop l.one-index l.cons))) ≡ after l.initial.found (joined (map (con_breaches l.params) l.cons))

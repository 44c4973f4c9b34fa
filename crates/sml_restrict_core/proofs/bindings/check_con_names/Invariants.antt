use Rattle.std.proofs.Common.{◌≡◌, length, map}
use Rattle.sml_restrict_core.specs.Breaches.{after, joined}
use Rattle.sml_restrict_core.specs.Bindings.{dat_bind_cons}
use Rattle.sml_restrict_core.specs.Repeats.{twice}
use Rattle.sml_restrict_core.proofs.bindings.check_con_names.Given as goal

abbrev pub invariant-loop-one : goal.invariant-loop-one
invariant-loop-one l = after l.found (twice (joined (map dat_bind_cons l.rest))) ≡ after l.initial.found (twice (joined (map dat_bind_cons l.binds)))

abbrev pub decreases-loop-one : goal.decreases-loop-one
decreases-loop-one l = length l.rest

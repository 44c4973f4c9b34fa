use Rattle.std.proofs.Common.{◌≡◌, drop, map}
use Rattle.sml_restrict_core.specs.Breaches.{after, joined}
use Rattle.sml_restrict_core.specs.Bindings.{dat_bind_breaches}
use Rattle.sml_restrict_core.proofs.bindings.check_dat_binds.Given as goal

abbrev pub invariant-loop-one : goal.invariant-loop-one
invariant-loop-one l = after l.found (joined (map dat_bind_breaches (drop l.one-index l.binds))) ≡ after l.initial.found (joined (map dat_bind_breaches l.binds))

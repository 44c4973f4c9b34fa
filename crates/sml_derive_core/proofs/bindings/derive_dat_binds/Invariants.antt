use Rattle.std.proofs.Common.{◌≡◌, ◌++◌, drop, map}
use Rattle.sml_derive_core.specs.Bindings.{derived_dat_bind}
use Rattle.sml_derive_core.proofs.bindings.derive_dat_binds.Given as goal

abbrev pub invariant-loop-one : goal.invariant-loop-one
invariant-loop-one l = l.done ++ map derived_dat_bind (drop l.one-index l.binds) ≡ map derived_dat_bind l.binds

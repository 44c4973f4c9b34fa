use Rattle.std.proofs.Common.{◌≡◌, ◌++◌, drop, map}
use Rattle.sml_derive_core.specs.Bindings.{derived_ty_bind}
use Rattle.sml_derive_core.proofs.bindings.derive_ty_binds.Given as goal

abbrev pub invariant-loop-one : goal.invariant-loop-one
invariant-loop-one l = l.done ++ map derived_ty_bind (drop l.one-index l.binds) ≡ map derived_ty_bind l.binds

use Rattle.std.proofs.Common.{◌≡◌, ◌++◌, drop}
use Rattle.sml_derive_core.proofs.fill.+copy_ty.Given as goal

abbrev pub invariant-copy_tys-loop-one : goal.invariant-copy_tys-loop-one
invariant-copy_tys-loop-one l = l.done ++ drop l.one-index l.tys ≡ l.tys

abbrev pub invariant-copy_ty_fields-loop-one : goal.invariant-copy_ty_fields-loop-one
invariant-copy_ty_fields-loop-one l = l.done ++ drop l.one-index l.fields ≡ l.fields

use Rattle.std.proofs.Common.{◌≡◌, ◌++◌, drop, map}
use Rattle.tl_text.specs.Pairs.{map_second}
use Rattle.sml_derive_core.specs.Types.{derived_ty}
use Rattle.sml_derive_core.proofs.ty.+derive_ty.Given as goal

abbrev pub invariant-derive_tys-loop-one : goal.invariant-derive_tys-loop-one
invariant-derive_tys-loop-one l = l.done ++ map derived_ty (drop l.one-index l.tys) ≡ map derived_ty l.tys

abbrev pub invariant-derive_ty_fields-loop-one : goal.invariant-derive_ty_fields-loop-one
invariant-derive_ty_fields-loop-one l = l.done ++ map_second derived_ty (drop l.one-index l.fields) ≡ map_second derived_ty l.fields

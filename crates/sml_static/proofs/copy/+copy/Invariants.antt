use Rattle.std.proofs.Common.{◌≡◌, ◌++◌, drop}
use Rattle.sml_static.proofs.copy.+copy.Given as goal

abbrev pub invariant-copy_fields-loop-field : goal.invariant-copy_fields-loop-field
invariant-copy_fields-loop-field l = l.done ++ drop l.field-index l.fields ≡ l.fields

abbrev pub invariant-copy_all-loop-ty : goal.invariant-copy_all-loop-ty
invariant-copy_all-loop-ty l = l.done ++ drop l.ty-index l.tys ≡ l.tys

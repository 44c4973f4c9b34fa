use Rattle.std.proofs.Common.{◌≡◌, ◌++◌, drop, map}
use Rattle.tl_text.specs.Pairs.{map_second}
use Rattle.sml_static.specs.Types.{applied}
use Rattle.sml_static.proofs.apply.+apply.Given as goal

abbrev pub invariant-apply_fields-loop-field : goal.invariant-apply_fields-loop-field
invariant-apply_fields-loop-field l = l.done ++ map_second (applied l.args) (drop l.field-index l.fields) ≡ map_second (applied l.args) l.fields

abbrev pub invariant-apply_all-loop-ty : goal.invariant-apply_all-loop-ty
invariant-apply_all-loop-ty l = l.done ++ map (applied l.args) (drop l.ty-index l.tys) ≡ map (applied l.args) l.tys

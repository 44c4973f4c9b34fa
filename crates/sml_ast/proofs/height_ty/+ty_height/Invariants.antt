use Rattle.std.proofs.Common.{◌≡◌, ◌-◌, ◌^◌, min, max, drop, map}
use Rattle.tl_text.specs.Pairs.{seconds, map_second}
use Rattle.sml_ast.specs.Heights.{greatest, ty_height}
use Rattle.sml_ast.proofs.height_ty.+ty_height.Given as goal

abbrev pub invariant-tys_height-loop-one : goal.invariant-tys_height-loop-one
invariant-tys_height-loop-one l = max l.most (min (greatest (map ty_height (drop l.one-index l.tys))) (2 ^ 32 - 1)) ≡ min (greatest (map ty_height l.fn.tys)) (2 ^ 32 - 1)

abbrev pub invariant-fields_height-loop-one : goal.invariant-fields_height-loop-one
invariant-fields_height-loop-one l = max l.most (min (greatest (seconds (map_second ty_height (drop l.one-index l.fields)))) (2 ^ 32 - 1)) ≡ min (greatest (seconds (map_second ty_height l.fn.fields))) (2 ^ 32 - 1)

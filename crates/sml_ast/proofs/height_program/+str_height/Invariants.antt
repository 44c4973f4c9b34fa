use Rattle.std.proofs.Common.{◌≡◌, ◌-◌, ◌^◌, min, max, drop, map}
use Rattle.sml_ast.specs.Heights.{greatest, str_bind_height, str_dec_height}
use Rattle.sml_ast.proofs.height_program.+str_height.Given as goal

abbrev pub invariant-str_decs_height-loop-one : goal.invariant-str_decs_height-loop-one
invariant-str_decs_height-loop-one l = max l.most (min (greatest (map str_dec_height (drop l.one-index l.decs))) (2 ^ 32 - 1)) ≡ min (greatest (map str_dec_height l.fn.decs)) (2 ^ 32 - 1)

abbrev pub invariant-str_binds_height-loop-one : goal.invariant-str_binds_height-loop-one
invariant-str_binds_height-loop-one l = max l.most (min (greatest (map str_bind_height (drop l.one-index l.binds))) (2 ^ 32 - 1)) ≡ min (greatest (map str_bind_height l.fn.binds)) (2 ^ 32 - 1)

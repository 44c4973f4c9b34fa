use Rattle.std.proofs.Common.{◌≡◌, ◌-◌, ◌^◌, min, max, drop, map}
use Rattle.sml_ast.specs.Heights.{greatest, dat_bind_height}
use Rattle.sml_ast.proofs.height_data.dat_binds_height.Given as goal

abbrev pub invariant-loop-one : goal.invariant-loop-one
invariant-loop-one l = max l.most (min (greatest (map dat_bind_height (drop l.one-index l.binds))) (2 ^ 32 - 1)) ≡ min (greatest (map dat_bind_height l.binds)) (2 ^ 32 - 1)

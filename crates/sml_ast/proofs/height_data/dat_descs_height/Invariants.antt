use Rattle.std.proofs.Common.{◌≡◌, ◌-◌, ◌^◌, min, max, drop, map}
use Rattle.sml_ast.specs.Heights.{greatest, dat_desc_height}
use Rattle.sml_ast.proofs.height_data.dat_descs_height.Given as goal

abbrev pub invariant-loop-one : goal.invariant-loop-one
invariant-loop-one l = max l.most (min (greatest (map dat_desc_height (drop l.one-index l.descs))) (2 ^ 32 - 1)) ≡ min (greatest (map dat_desc_height l.descs)) (2 ^ 32 - 1)

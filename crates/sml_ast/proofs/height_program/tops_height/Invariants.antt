use Rattle.std.proofs.Common.{◌≡◌, ◌-◌, ◌^◌, min, max, drop, map}
use Rattle.sml_ast.specs.Heights.{greatest, top_height}
use Rattle.sml_ast.proofs.height_program.tops_height.Given as goal

abbrev pub invariant-loop-one : goal.invariant-loop-one
invariant-loop-one l = max l.most (min (greatest (map top_height (drop l.one-index l.tops))) (2 ^ 32 - 1)) ≡ min (greatest (map top_height l.tops)) (2 ^ 32 - 1)

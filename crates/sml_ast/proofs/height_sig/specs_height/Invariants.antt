use Rattle.std.proofs.Common.{◌≡◌, ◌-◌, ◌^◌, min, max, drop, map}
use Rattle.sml_ast.specs.Heights.{greatest, spec_height}
use Rattle.sml_ast.proofs.height_sig.specs_height.Given as goal

abbrev pub invariant-loop-one : goal.invariant-loop-one
invariant-loop-one l = max l.most (min (greatest (map spec_height (drop l.one-index l.specs))) (2 ^ 32 - 1)) ≡ min (greatest (map spec_height l.specs)) (2 ^ 32 - 1)

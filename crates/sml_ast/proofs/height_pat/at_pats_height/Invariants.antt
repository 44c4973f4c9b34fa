use Rattle.std.proofs.Common.{◌≡◌, ◌-◌, ◌^◌, min, max, drop, map}
use Rattle.sml_ast.specs.Heights.{greatest, at_pat_height}
use Rattle.sml_ast.proofs.height_pat.at_pats_height.Given as goal

abbrev pub invariant-loop-one : goal.invariant-loop-one
invariant-loop-one l = max l.most (min (greatest (map at_pat_height (drop l.one-index l.pats))) (2 ^ 32 - 1)) ≡ min (greatest (map at_pat_height l.pats)) (2 ^ 32 - 1)

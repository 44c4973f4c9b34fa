use Rattle.std.proofs.Common.{◌≡◌, ◌-◌, ◌^◌, min, max, drop, map}
use Rattle.sml_ast.specs.Heights.{greatest, ty_height}
use Rattle.sml_ast.proofs.height_sig.vals_height.Given as goal

abbrev pub invariant-loop-one : goal.invariant-loop-one
invariant-loop-one l = max l.most (min (greatest (map (λ x. ty_height x.1) (drop l.one-index l.vals))) (2 ^ 32 - 1)) ≡ min (greatest (map (λ x. ty_height x.1) l.vals)) (2 ^ 32 - 1)

use Rattle.std.proofs.Common.{◌≡◌, ◌-◌, ◌^◌, min, max, drop, map}
use Rattle.sml_ast.specs.Heights.{greatest, opt_ty_height}
use Rattle.sml_ast.proofs.height_data.cons_height.Given as goal

abbrev pub invariant-loop-one : goal.invariant-loop-one
invariant-loop-one l = max l.most (min (greatest (map (λ c. opt_ty_height c.2) (drop l.one-index l.cons))) (2 ^ 32 - 1)) ≡ min (greatest (map (λ c. opt_ty_height c.2) l.cons)) (2 ^ 32 - 1)

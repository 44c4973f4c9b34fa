use Rattle.std.proofs.Common.{◌≡◌, ◌+◌, ◌-◌, ◌^◌, min, max, drop, map}
use Rattle.tl_text.specs.Pairs.{seconds, map_second}
use Rattle.sml_ast.specs.Heights.{greatest, at_exp_height, clause_height, dec_height, exp_height, rule_height, bindings_height}
use Rattle.sml_ast.proofs.height_exp.+exp_height.Given as goal

abbrev pub invariant-at_exps_height-loop-one : goal.invariant-at_exps_height-loop-one
invariant-at_exps_height-loop-one l = max l.most (min (greatest (map at_exp_height (drop l.one-index l.exps))) (2 ^ 32 - 1)) ≡ min (greatest (map at_exp_height l.fn.exps)) (2 ^ 32 - 1)

abbrev pub invariant-exps_height-loop-one : goal.invariant-exps_height-loop-one
invariant-exps_height-loop-one l = max l.most (min (greatest (map exp_height (drop l.one-index l.exps))) (2 ^ 32 - 1)) ≡ min (greatest (map exp_height l.fn.exps)) (2 ^ 32 - 1)

abbrev pub invariant-exp_fields_height-loop-one : goal.invariant-exp_fields_height-loop-one
invariant-exp_fields_height-loop-one l = max l.most (min (greatest (seconds (map_second exp_height (drop l.one-index l.fields)))) (2 ^ 32 - 1)) ≡ min (greatest (seconds (map_second exp_height l.fn.fields))) (2 ^ 32 - 1)

abbrev pub invariant-rules_height-loop-one : goal.invariant-rules_height-loop-one
invariant-rules_height-loop-one l = max l.most (min (greatest (map rule_height (drop l.one-index l.rules))) (2 ^ 32 - 1)) ≡ min (greatest (map rule_height l.fn.rules)) (2 ^ 32 - 1)

abbrev pub invariant-decs_height-loop-one : goal.invariant-decs_height-loop-one
invariant-decs_height-loop-one l = max l.most (min (greatest (map dec_height (drop l.one-index l.decs))) (2 ^ 32 - 1)) ≡ min (greatest (map dec_height l.fn.decs)) (2 ^ 32 - 1)

abbrev pub invariant-functions_height-loop-function : goal.invariant-functions_height-loop-function
invariant-functions_height-loop-function l = max l.most (min (greatest (map greatest (map (map clause_height) (drop l.function-index l.functions)))) (2 ^ 32 - 1)) ≡ min (greatest (map greatest (map (map clause_height) l.fn.functions))) (2 ^ 32 - 1)

abbrev pub invariant-functions_height-loop-clause : goal.invariant-functions_height-loop-clause
invariant-functions_height-loop-clause l = max l.most (min (greatest (map clause_height (drop l.clause-index l.clause-items))) (2 ^ 32 - 1)) ≡ max l.initial.most (min (greatest (map clause_height l.initial.clause-items)) (2 ^ 32 - 1))

abbrev pub invariant-dec_height-loop-one : goal.invariant-dec_height-loop-one
invariant-dec_height-loop-one l = min (max l.most (bindings_height (map_second exp_height (drop l.one-index l.one-items))) + 1) (2 ^ 32 - 1) ≡ min (dec_height l.dec) (2 ^ 32 - 1)

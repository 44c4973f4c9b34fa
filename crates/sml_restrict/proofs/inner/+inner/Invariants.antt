use Rattle.std.proofs.Common.{◌≡◌, ◌+◌, ◌*◌, drop, map}
use Rattle.tl_text.specs.Pairs.{map_second, seconds}
use Rattle.sml_ast.specs.declared.exp.AtExp.TheViews.{size-AtExp, size-Clause, size-Dec, size-Exp, weight-AtExp-Fields-1, weight-AtExp-Tuple-2, weight-AtExp-Let-1, weight-Exp-Apply-1, weight-Exp-Handle-2, weight-Dec-Vals-3, weight-Dec-Funs-2}
use Rattle.sml_restrict_core.specs.Breaches.{after}
use Rattle.sml_restrict.specs.Expressions.{all, at_exp_facts, bound, clause_facts, dec_facts, exp_facts, function_facts, functions_facts, rescoped, rule_facts}
use Rattle.sml_restrict.proofs.inner.+inner.Given as goal

abbrev pub invariant-in_at_exps-loop-one : goal.invariant-in_at_exps-loop-one
invariant-in_at_exps-loop-one l = after l.found (rescoped (dec_facts l.outer).scope (all (map at_exp_facts (drop l.one-index l.row))).binds) ≡ after l.fn.found (rescoped (dec_facts l.outer).scope (all (map at_exp_facts l.row)).binds)

abbrev pub invariant-in_exps-loop-one : goal.invariant-in_exps-loop-one
invariant-in_exps-loop-one l = after l.found (rescoped (dec_facts l.outer).scope (all (map exp_facts (drop l.one-index l.row))).binds) ≡ after l.fn.found (rescoped (dec_facts l.outer).scope (all (map exp_facts l.row)).binds)

abbrev pub invariant-in_fields-loop-one : goal.invariant-in_fields-loop-one
invariant-in_fields-loop-one l = after l.found (rescoped (dec_facts l.outer).scope (all (seconds (map_second exp_facts (drop l.one-index l.row)))).binds) ≡ after l.fn.found (rescoped (dec_facts l.outer).scope (all (seconds (map_second exp_facts l.row))).binds)

abbrev pub invariant-in_rules-loop-one : goal.invariant-in_rules-loop-one
invariant-in_rules-loop-one l = after l.found (rescoped (dec_facts l.outer).scope (all (map rule_facts (drop l.one-index l.row))).binds) ≡ after l.fn.found (rescoped (dec_facts l.outer).scope (all (map rule_facts l.row)).binds)

abbrev pub invariant-in_decs-loop-one : goal.invariant-in_decs-loop-one
invariant-in_decs-loop-one l = after l.found (rescoped (dec_facts l.outer).scope (all (map dec_facts (drop l.one-index l.row))).binds) ≡ after l.fn.found (rescoped (dec_facts l.outer).scope (all (map dec_facts l.row)).binds)

abbrev pub invariant-in_binds-loop-one : goal.invariant-in_binds-loop-one
invariant-in_binds-loop-one l = after l.found (rescoped (dec_facts l.outer).scope (all (map bound (map_second exp_facts (drop l.one-index l.row)))).binds) ≡ after l.fn.found (rescoped (dec_facts l.outer).scope (all (map bound (map_second exp_facts l.row))).binds)

abbrev pub invariant-in_functions-loop-clause : goal.invariant-in_functions-loop-clause
invariant-in_functions-loop-clause l = after l.found (rescoped (dec_facts l.outer).scope (function_facts (map clause_facts (drop l.clause-index l.clause-items))).binds) ≡ after l.initial.found (rescoped (dec_facts l.outer).scope (function_facts (map clause_facts l.clause-items)).binds)

abbrev pub invariant-in_functions-loop-one : goal.invariant-in_functions-loop-one
invariant-in_functions-loop-one l = after l.found (rescoped (dec_facts l.outer).scope (functions_facts (map (map clause_facts) (drop l.one-index l.row))).binds) ≡ after l.fn.found (rescoped (dec_facts l.outer).scope (functions_facts (map (map clause_facts) l.row)).binds)

abbrev pub decreases-in_at_exp : goal.decreases-in_at_exp
decreases-in_at_exp l = 2 * size-AtExp l.exp.now

abbrev pub decreases-in_exp : goal.decreases-in_exp
decreases-in_exp l = 2 * size-Exp l.exp.now

abbrev pub decreases-in_dec : goal.decreases-in_dec
decreases-in_dec l = 2 * size-Dec l.dec.now

abbrev pub decreases-in_clause : goal.decreases-in_clause
decreases-in_clause l = 2 * size-Clause l.clause.now

abbrev pub decreases-in_at_exps : goal.decreases-in_at_exps
decreases-in_at_exps l = 2 * weight-Exp-Apply-1 l.row.now + 1

abbrev pub decreases-in_exps : goal.decreases-in_exps
decreases-in_exps l = 2 * weight-AtExp-Tuple-2 l.row.now + 1

abbrev pub decreases-in_fields : goal.decreases-in_fields
decreases-in_fields l = 2 * weight-AtExp-Fields-1 l.row.now + 1

abbrev pub decreases-in_rules : goal.decreases-in_rules
decreases-in_rules l = 2 * weight-Exp-Handle-2 l.row.now + 1

abbrev pub decreases-in_decs : goal.decreases-in_decs
decreases-in_decs l = 2 * weight-AtExp-Let-1 l.row.now + 1

abbrev pub decreases-in_binds : goal.decreases-in_binds
decreases-in_binds l = 2 * weight-Dec-Vals-3 l.row.now + 1

abbrev pub decreases-in_functions : goal.decreases-in_functions
decreases-in_functions l = 2 * weight-Dec-Funs-2 l.row.now + 1

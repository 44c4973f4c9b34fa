use Rattle.std.proofs.Common.{◌≡◌, ◌+◌, ◌*◌, drop, map}
use Rattle.tl_text.specs.Pairs.{map_second, seconds}
use Rattle.sml_ast.specs.declared.exp.AtExp.TheViews.{size-AtExp, size-Clause, size-Dec, size-Exp, size-Rule, weight-AtExp-Fields-1, weight-AtExp-Tuple-2, weight-AtExp-Let-1, weight-Exp-Apply-1, weight-Exp-Handle-2, weight-Dec-Vals-3, weight-Dec-Funs-2}
use Rattle.sml_restrict_core.specs.Breaches.{after}
use Rattle.sml_restrict.specs.Expressions.{all, at_exp_facts, bound, clause_facts, dec_facts, exp_facts, function_facts, functions_facts, rule_facts}
use Rattle.sml_restrict.proofs.phrase.+phrase.Given as goal

abbrev pub invariant-check_at_exps-loop-one : goal.invariant-check_at_exps-loop-one
invariant-check_at_exps-loop-one l = after l.found (all (map at_exp_facts (drop l.one-index l.row))).broken ≡ after l.fn.found (all (map at_exp_facts l.row)).broken

abbrev pub invariant-check_exps-loop-one : goal.invariant-check_exps-loop-one
invariant-check_exps-loop-one l = after l.found (all (map exp_facts (drop l.one-index l.row))).broken ≡ after l.fn.found (all (map exp_facts l.row)).broken

abbrev pub invariant-check_fields-loop-one : goal.invariant-check_fields-loop-one
invariant-check_fields-loop-one l = after l.found (all (seconds (map_second exp_facts (drop l.one-index l.row)))).broken ≡ after l.fn.found (all (seconds (map_second exp_facts l.row))).broken

abbrev pub invariant-check_rules-loop-one : goal.invariant-check_rules-loop-one
invariant-check_rules-loop-one l = after l.found (all (map rule_facts (drop l.one-index l.row))).broken ≡ after l.fn.found (all (map rule_facts l.row)).broken

abbrev pub invariant-check_decs-loop-one : goal.invariant-check_decs-loop-one
invariant-check_decs-loop-one l = after l.found (all (map dec_facts (drop l.one-index l.row))).broken ≡ after l.fn.found (all (map dec_facts l.row)).broken

abbrev pub invariant-check_binds-loop-one : goal.invariant-check_binds-loop-one
invariant-check_binds-loop-one l = after l.found (all (map bound (map_second exp_facts (drop l.one-index l.row)))).broken ≡ after l.fn.found (all (map bound (map_second exp_facts l.row))).broken

abbrev pub invariant-check_bodies-loop-clause : goal.invariant-check_bodies-loop-clause
invariant-check_bodies-loop-clause l = after l.found (function_facts (map clause_facts (drop l.clause-index l.clause-items))).broken ≡ after l.initial.found (function_facts (map clause_facts l.clause-items)).broken

abbrev pub invariant-check_bodies-loop-one : goal.invariant-check_bodies-loop-one
invariant-check_bodies-loop-one l = after l.found (functions_facts (map (map clause_facts) (drop l.one-index l.row))).broken ≡ after l.fn.found (functions_facts (map (map clause_facts) l.row)).broken

abbrev pub decreases-check_at_exp : goal.decreases-check_at_exp
decreases-check_at_exp l = 2 * size-AtExp l.exp.now

abbrev pub decreases-check_exp : goal.decreases-check_exp
decreases-check_exp l = 2 * size-Exp l.exp.now

abbrev pub decreases-check_dec : goal.decreases-check_dec
decreases-check_dec l = 2 * size-Dec l.dec.now

abbrev pub decreases-check_clause : goal.decreases-check_clause
decreases-check_clause l = 2 * size-Clause l.clause.now

abbrev pub decreases-check_at_exps : goal.decreases-check_at_exps
decreases-check_at_exps l = 2 * weight-Exp-Apply-1 l.row.now + 1

abbrev pub decreases-check_exps : goal.decreases-check_exps
decreases-check_exps l = 2 * weight-AtExp-Tuple-2 l.row.now + 1

abbrev pub decreases-check_fields : goal.decreases-check_fields
decreases-check_fields l = 2 * weight-AtExp-Fields-1 l.row.now + 1

abbrev pub decreases-check_rules : goal.decreases-check_rules
decreases-check_rules l = 2 * weight-Exp-Handle-2 l.row.now + 1

abbrev pub decreases-check_decs : goal.decreases-check_decs
decreases-check_decs l = 2 * weight-AtExp-Let-1 l.row.now + 1

abbrev pub decreases-check_binds : goal.decreases-check_binds
decreases-check_binds l = 2 * weight-Dec-Vals-3 l.row.now + 1

abbrev pub decreases-check_bodies : goal.decreases-check_bodies
decreases-check_bodies l = 2 * weight-Dec-Funs-2 l.row.now + 1

abbrev pub decreases-check_rule : goal.decreases-check_rule
decreases-check_rule l = 2 * size-Rule l.rule.now

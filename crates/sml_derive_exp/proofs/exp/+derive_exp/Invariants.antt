use Rattle.std.proofs.Common.{◌≡◌, ◌+◌, ◌*◌, ◌∷◌, ◌++◌, drop, map, max}
use Rattle.tl_text.specs.Pairs.{map_second}
use Rattle.sml_derive_core.specs.Patterns.{derived_pat}
use Rattle.sml_ast.specs.declared.exp.AtExp.TheViews.{size-AtExp, size-Clause, size-Dec, size-Exp, size-Rule, weight-AtExp-Fields-1, weight-AtExp-Tuple-2, weight-AtExp-Let-1, weight-Exp-Apply-1, weight-Exp-Handle-2, weight-Dec-Vals-3, weight-Dec-Funs-2}
use Rattle.sml_derive_forms.specs.Functions.{function}
use Rattle.sml_derive_exp.specs.Declarations.{derived_at_exp, derived_clause, derived_dec, derived_exp, derived_rule}
use Rattle.sml_derive_exp.proofs.exp.+derive_exp.Given as goal

abbrev pub invariant-derive_at_exps-loop-one : goal.invariant-derive_at_exps-loop-one
invariant-derive_at_exps-loop-one l = l.done ++ map derived_at_exp (drop l.one-index l.exps) ≡ map derived_at_exp l.exps

abbrev pub invariant-derive_exps-loop-one : goal.invariant-derive_exps-loop-one
invariant-derive_exps-loop-one l = l.done ++ map derived_exp (drop l.one-index l.exps) ≡ map derived_exp l.exps

abbrev pub invariant-derive_fields-loop-one : goal.invariant-derive_fields-loop-one
invariant-derive_fields-loop-one l = l.done ++ map_second derived_exp (drop l.one-index l.fields) ≡ map_second derived_exp l.fields

abbrev pub invariant-derive_rules-loop-one : goal.invariant-derive_rules-loop-one
invariant-derive_rules-loop-one l = l.done ++ map derived_rule (drop l.one-index l.rules) ≡ map derived_rule l.rules

abbrev pub invariant-derive_decs-loop-one : goal.invariant-derive_decs-loop-one
invariant-derive_decs-loop-one l = l.done ++ map derived_dec (drop l.one-index l.decs) ≡ map derived_dec l.decs

abbrev pub invariant-derive_binds-loop-one : goal.invariant-derive_binds-loop-one
invariant-derive_binds-loop-one l =
    l.done ++ map (λ b. (derived_pat b.0, b.1)) (map_second derived_exp (drop l.one-index l.binds))
    ≡ map (λ b. (derived_pat b.0, b.1)) (map_second derived_exp l.binds)

abbrev pub invariant-derive_some-loop-one : goal.invariant-derive_some-loop-one
invariant-derive_some-loop-one l =
    l.done ++ map derived_exp (drop l.one-index l.others) ≡ derived_exp l.first ∷ map derived_exp l.others

abbrev pub invariant-derive_functions-loop-clause : goal.invariant-derive_functions-loop-clause
invariant-derive_functions-loop-clause l = l.clauses ++ map derived_clause (drop l.clause-index l.clause-items) ≡ map derived_clause l.clause-items

abbrev pub invariant-derive_functions-loop-one : goal.invariant-derive_functions-loop-one
invariant-derive_functions-loop-one l =
    l.done ++ map (function l.place) (map (map derived_clause) (drop l.one-index l.functions))
    ≡ map (function l.place) (map (map derived_clause) l.functions)

-- three times the greatest depth of what is given, and a rank: 0 for a node, 1 for a row and for what calls with nodes alone, 2 for
-- what calls with a row
abbrev pub decreases-derive_at_exp : goal.decreases-derive_at_exp
decreases-derive_at_exp l = 3 * size-AtExp l.exp.now

abbrev pub decreases-derive_exp : goal.decreases-derive_exp
decreases-derive_exp l = 3 * size-Exp l.exp.now

abbrev pub decreases-derive_rule : goal.decreases-derive_rule
decreases-derive_rule l = 3 * size-Rule l.rule.now

abbrev pub decreases-derive_dec : goal.decreases-derive_dec
decreases-derive_dec l = 3 * size-Dec l.dec.now

abbrev pub decreases-derive_clause : goal.decreases-derive_clause
decreases-derive_clause l = 3 * size-Clause l.syntax.now

abbrev pub decreases-derive_at_exps : goal.decreases-derive_at_exps
decreases-derive_at_exps l = 3 * weight-Exp-Apply-1 l.exps.now + 1

abbrev pub decreases-derive_exps : goal.decreases-derive_exps
decreases-derive_exps l = 3 * weight-AtExp-Tuple-2 l.exps.now + 1

abbrev pub decreases-derive_fields : goal.decreases-derive_fields
decreases-derive_fields l = 3 * weight-AtExp-Fields-1 l.fields.now + 1

abbrev pub decreases-derive_rules : goal.decreases-derive_rules
decreases-derive_rules l = 3 * weight-Exp-Handle-2 l.rules.now + 1

abbrev pub decreases-derive_decs : goal.decreases-derive_decs
decreases-derive_decs l = 3 * weight-AtExp-Let-1 l.decs.now + 1

abbrev pub decreases-derive_binds : goal.decreases-derive_binds
decreases-derive_binds l = 3 * weight-Dec-Vals-3 l.binds.now + 1

abbrev pub decreases-derive_functions : goal.decreases-derive_functions
decreases-derive_functions l = 3 * weight-Dec-Funs-2 l.functions.now + 1

abbrev pub decreases-derive_some : goal.decreases-derive_some
decreases-derive_some l = 3 * max (size-Exp l.first.now) (weight-AtExp-Tuple-2 l.others.now) + 1

abbrev pub decreases-derive_apply : goal.decreases-derive_apply
decreases-derive_apply l = 3 * weight-Exp-Apply-1 l.atoms.now + 2

abbrev pub decreases-derive_infix : goal.decreases-derive_infix
decreases-derive_infix l = 3 * max (size-Exp l.left.now) (size-Exp l.right.now) + 1

abbrev pub decreases-derive_typed : goal.decreases-derive_typed
decreases-derive_typed l = 3 * size-Exp l.inner.now + 1

abbrev pub decreases-derive_both : goal.decreases-derive_both
decreases-derive_both l = 3 * max (size-Exp l.left.now) (size-Exp l.right.now) + 1

abbrev pub decreases-derive_either : goal.decreases-derive_either
decreases-derive_either l = 3 * max (size-Exp l.left.now) (size-Exp l.right.now) + 1

abbrev pub decreases-derive_handle : goal.decreases-derive_handle
decreases-derive_handle l = 3 * max (size-Exp l.inner.now) (weight-Exp-Handle-2 l.rules.now) + 2

abbrev pub decreases-derive_raise : goal.decreases-derive_raise
decreases-derive_raise l = 3 * size-Exp l.inner.now + 1

abbrev pub decreases-derive_if : goal.decreases-derive_if
decreases-derive_if l = 3 * max (size-Exp l.test.now) (max (size-Exp l.first.now) (size-Exp l.other.now)) + 1

abbrev pub decreases-derive_while : goal.decreases-derive_while
decreases-derive_while l = 3 * max (size-Exp l.test.now) (size-Exp l.action.now) + 1

abbrev pub decreases-derive_case : goal.decreases-derive_case
decreases-derive_case l = 3 * max (size-Exp l.inner.now) (weight-Exp-Handle-2 l.rules.now) + 2

abbrev pub decreases-derive_fn : goal.decreases-derive_fn
decreases-derive_fn l = 3 * weight-Exp-Handle-2 l.rules.now + 2

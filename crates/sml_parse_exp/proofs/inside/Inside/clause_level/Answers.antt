use Rattle.std.proofs.Common.{sym, ◌∙◌, arith}
use Rattle.std.proofs.lemmas.Result.{err_from_is_err_and}
use Rattle.sml_fix.specs.Fixities.{settings}
use Rattle.sml_parse_exp.specs.Trees as trees
use Rattle.sml_parse_exp.proofs.Fronts.{clause_first_fails, clause_made, clause_fails}
use Rattle.sml_parse_exp.proofs.inside.Inside.clause_level.Goals as goal

pub returns-in_err-head-clause-gives : goal.returns-in_err-head-clause-gives
returns-in_err-head-clause-gives g c =
    let p = err_from_is_err_and c.from_residual.result c.from_residual.ensures.1 in
    rw (p.1, p.2) (clause_first_fails c.args.scope.now c.has_operator-some_operator.result c.has_operator-some_operator.ensures (settings c.fixities.result.now) c.fixities.ensures c.fixities-2.result.now c.fixities-2.ensures c.args.room c.args.tokens.now (sym c.begins_head.ensures ∙ c.if-not-begins_head.false) (let le = c.if-room-lt2.false in omega arith)
    c.in_err-head.field-0.0 c.in_err-head.ensures)

pub returns-in_err-body-clause-gives : goal.returns-in_err-body-clause-gives
returns-in_err-body-clause-gives g c =
    let p = err_from_is_err_and c.from_residual-in_err-body.result c.from_residual-in_err-body.ensures.1 in
    rw (p.1, p.2) (clause_fails c.args.scope.now c.has_operator-some_operator.result c.has_operator-some_operator.ensures (settings c.fixities.result.now) c.fixities.ensures c.fixities-2.result.now c.fixities-2.ensures c.args.room c.args.tokens.now (sym c.begins_head.ensures ∙ c.if-not-begins_head.false) (let le = c.if-room-lt2.false in omega arith)
    ((c.in_ok-head.head, c.in_ok-head.ty), c.in_ok-head.height) c.in_ok-head.rest.now c.in_ok-head.ensures c.in_err-body.field-0.0 c.in_err-body.ensures.gives)

pub returns-clause-gives : goal.returns-clause-gives
returns-clause-gives g c =
    rw c.in_ok-clause.ensures (clause_made c.args.scope.now c.has_operator-some_operator.result c.has_operator-some_operator.ensures (settings c.fixities.result.now) c.fixities.ensures c.fixities-2.result.now c.fixities-2.ensures c.args.room c.args.tokens.now (sym c.begins_head.ensures ∙ c.if-not-begins_head.false) (let le = c.if-room-lt2.false in omega arith)
    ((c.in_ok-head.head, c.in_ok-head.ty), c.in_ok-head.height) c.in_ok-head.rest.now c.in_ok-head.ensures (trees.seen c.in_ok-body.body) c.in_ok-body.rest.now c.in_ok-body.ensures.gives)

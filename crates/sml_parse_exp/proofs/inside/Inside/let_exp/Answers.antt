use Rattle.std.proofs.Common.{◌≡◌, suc, max, arith}
use Rattle.std.proofs.lemmas.Result.{err_from_is_err_and}
use Rattle.sml_parse_exp.proofs.Wholes.{let_first_fails, let_read, let_fails, left_let}
use Rattle.sml_parse_exp.proofs.inside.Inside.let_exp.Goals as goal

pub returns-in_err-decs-clause-gives : goal.returns-in_err-decs-clause-gives
returns-in_err-decs-clause-gives g c =
    let p = err_from_is_err_and c.from_residual.result c.from_residual.ensures.1 in
    rw (p.1, p.2) (let_first_fails c.args.scope.now c.args.room c.args.place c.args.tokens.now c.in_err-decs.field-0.0 c.in_err-decs.ensures.gives)

pub returns-in_err-body-clause-gives : goal.returns-in_err-body-clause-gives
returns-in_err-body-clause-gives g c =
    let p = err_from_is_err_and c.from_residual-in_err-body.result c.from_residual-in_err-body.ensures.1 in
    rw (p.1, p.2) (let_fails c.args.scope.now c.args.room c.args.place c.args.tokens.now _ (c.in_ok-decs.decs, c.in_ok-decs.height) c.in_ok-decs.rest.now c.in_ok-decs.ensures.gives c.in_ok-decs.ensures.moves c.in_err-body.field-0.0 c.in_err-body.ensures.gives)

pub returns-clause-gives : goal.returns-clause-gives
returns-clause-gives g c =
    let up : c.in_ok-height.height ≡ suc (max c.in_ok-decs.height c.in_ok-body.other) = omega (arith, c.in_ok-height.ensures) in
    rw up (let_read c.args.scope.now c.args.room c.args.place c.args.tokens.now _ (c.in_ok-decs.decs, c.in_ok-decs.height) c.in_ok-decs.rest.now c.in_ok-decs.ensures.gives c.in_ok-decs.ensures.moves (c.in_ok-body.body, c.in_ok-body.other) c.in_ok-body.rest.now c.in_ok-body.ensures.gives)

pub returns-clause-keeps : goal.returns-clause-keeps
returns-clause-keeps g c = left_let c.args.scope.now _ _ _ _ c.count-outer.result c.count-outer.ensures c.in_ok-decs.ensures.moves c.in_ok-body.ensures.keeps c.in_ok-leave.ensures

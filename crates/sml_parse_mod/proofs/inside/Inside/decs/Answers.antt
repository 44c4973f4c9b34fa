use Rattle.std.proofs.Common.{sym, ◌∙◌}
use Rattle.std.proofs.lemmas.Result.{err_from_is_err_and}
use Rattle.sml_parse_mod.proofs.RowHands.{decs_fail, decs_barred, decs_read}
use Rattle.sml_parse_mod.proofs.inside.Inside.decs.Goals as goal

pub returns-in_err-found-clause-gives : goal.returns-in_err-found-clause-gives
returns-in_err-found-clause-gives g c =
    let p = err_from_is_err_and c.from_residual-in_err-found.result c.from_residual-in_err-found.ensures.1 in
    rw (p.1, p.2) (decs_fail c.args.scope.now c.args.room c.args.tokens.now c.in_ok-rest.rest.now c.in_ok-rest.ensures c.in_err-found.field-0.0 c.in_err-found.ensures.gives)

pub returns-then-goes_in_decs-clause-gives : goal.returns-then-goes_in_decs-clause-gives
returns-then-goes_in_decs-clause-gives g c = decs_barred c.args.scope.now c.args.room c.args.tokens.now c.in_ok-rest.rest.now c.in_ok-rest.ensures c.in_ok-found.found c.in_ok-found.rest.now c.in_ok-found.ensures.gives (sym c.goes_in_decs.ensures ∙ c.if-goes_in_decs.true)

pub returns-clause-gives : goal.returns-clause-gives
returns-clause-gives g c = decs_read c.args.scope.now c.args.room c.args.tokens.now c.in_ok-rest.rest.now c.in_ok-rest.ensures c.in_ok-found.found c.in_ok-found.rest.now c.in_ok-found.ensures.gives (sym c.goes_in_decs.ensures ∙ c.if-goes_in_decs.false)

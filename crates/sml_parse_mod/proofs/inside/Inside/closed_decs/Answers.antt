use Rattle.std.proofs.lemmas.Result.{err_from_is_err_and}
use Rattle.sml_parse_mod.specs.Levels as levels
use Rattle.sml_parse_mod.proofs.RowHands.{closing_fails}
use Rattle.sml_parse_mod.proofs.inside.Inside.closed_decs.Goals as goal

pub returns-in_err-rest-clause-gives : goal.returns-in_err-rest-clause-gives
returns-in_err-rest-clause-gives g c =
    let p = err_from_is_err_and c.from_residual-in_err-rest.result c.from_residual-in_err-rest.ensures.1 in
    rw (p.1, p.2) (closing_fails (levels.decs c.args.scope.now c.args.room) c.args.word c.in_err-rest.field-0.0 c.args.tokens.now c.in_ok-found.rest.now c.in_ok-found.found c.in_ok-found.ensures.gives c.in_err-rest.ensures)

use Rattle.std.proofs.lemmas.Result.{err_from_is_err_and}
use Rattle.sml_grammar.specs.Words.{WITH}
use Rattle.sml_parse_exp.specs.Levels as levels
use Rattle.sml_parse_exp.proofs.DecRows.{word_end_fails}
use Rattle.sml_parse_exp.proofs.inside.Inside.with_part.Goals as goal

pub returns-in_err-rest-2-clause-gives : goal.returns-in_err-rest-2-clause-gives
returns-in_err-rest-2-clause-gives g c =
    let p = err_from_is_err_and c.from_residual-in_err-rest-2.result c.from_residual-in_err-rest-2.ensures.1 in
    rw (p.1, p.2) (word_end_fails (levels.decs c.args.scope.now c.args.room) WITH c.args.tokens.now c.in_ok-rest.rest.now c.in_ok-found.rest.now c.in_ok-found.found c.in_ok-rest.ensures c.in_ok-found.ensures.gives c.in_err-rest-2.field-0.0 c.in_err-rest-2.ensures)

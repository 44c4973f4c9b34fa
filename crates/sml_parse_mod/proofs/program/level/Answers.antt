use Rattle.std.proofs.lemmas.Result.{err_from_is_err_and}
use Rattle.sml_parse_mod.proofs.Tops.{program_end_fails, program_fails, program_gives, program_items_fail}
use Rattle.sml_parse_mod.proofs.program.level.Goals as goal

pub returns-in_err-opening-clause-gives : goal.returns-in_err-opening-clause-gives
returns-in_err-opening-clause-gives c =
    let p = err_from_is_err_and c.from_residual.result c.from_residual.ensures.1 in
    rw (p.1, p.2) (program_fails c.args.scope.now c.args.room c.args.tokens.now c.in_err-opening.field-0.0 c.in_err-opening.ensures)

pub returns-in_err-tops-clause-gives : goal.returns-in_err-tops-clause-gives
returns-in_err-tops-clause-gives c =
    let p = err_from_is_err_and c.from_residual-in_err-tops.result c.from_residual-in_err-tops.ensures.1 in
    rw (p.1, p.2) (program_items_fail c.args.scope.now c.args.room c.args.tokens.now c.in_ok-opening.opening c.in_ok-opening.rest.now c.in_ok-opening.ensures c.in_err-tops.field-0.0 c.in_err-tops.ensures.gives)

pub returns-in_err-end-clause-gives : goal.returns-in_err-end-clause-gives
returns-in_err-end-clause-gives c =
    let p = err_from_is_err_and c.from_residual-in_err-end.result c.from_residual-in_err-end.ensures.1 in
    rw (p.1, p.2) (program_end_fails c.args.scope.now c.args.room c.args.tokens.now c.in_ok-opening.opening c.in_ok-opening.rest.now c.in_ok-opening.ensures c.in_ok-tops.tops c.in_ok-tops.height c.in_ok-tops.rest.now c.in_ok-tops.ensures.gives c.in_err-end.field-0.0 c.in_err-end.ensures)

pub returns-clause-gives : goal.returns-clause-gives
returns-clause-gives c =
    rw (c.in_ok-with_height.ensures, c.program_place-place.ensures, c.items-2.ensures) (program_gives c.args.scope.now c.args.room c.args.tokens.now c.in_ok-opening.opening c.in_ok-opening.rest.now c.in_ok-opening.ensures c.in_ok-tops.tops c.in_ok-tops.height c.in_ok-tops.rest.now c.in_ok-tops.ensures.gives c.in_ok-end.end c.in_ok-end.rest.now c.in_ok-end.ensures)

pub returns-clause-moves : goal.returns-clause-moves
returns-clause-moves c = rw c.in_ok-with_height.ensures c.in_ok-tops.ensures.moves

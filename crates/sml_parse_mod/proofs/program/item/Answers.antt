use Rattle.std.proofs.Common.{sym, ◌∙◌}
use Rattle.std.proofs.lemmas.Result.{err_from_is_err_and}
use Rattle.sml_parse_mod.specs.Trees as trees
use Rattle.sml_parse_mod.proofs.TopItems.{item_alone, item_fails, item_semis, item_semis_fail}
use Rattle.sml_parse_mod.proofs.program.item.Goals as goal

pub returns-in_err-found-clause-gives : goal.returns-in_err-found-clause-gives
returns-in_err-found-clause-gives c =
    let p = err_from_is_err_and c.from_residual.result c.from_residual.ensures.1 in
    rw (p.1, p.2) (item_fails c.args.scope.now c.args.room (trees.before c.args.before) c.args.tokens.now c.in_err-found.field-0.0 c.in_err-found.ensures.gives)

pub returns-in_err-rest-clause-gives : goal.returns-in_err-rest-clause-gives
returns-in_err-rest-clause-gives c =
    let p = err_from_is_err_and c.from_residual-in_err-rest.result c.from_residual-in_err-rest.ensures.1 in
    rw (p.1, p.2) (item_semis_fail c.args.scope.now c.args.room (trees.before c.args.before) c.args.tokens.now c.in_ok-found.found c.in_ok-found.rest.now c.in_ok-found.ensures.gives c.in_err-rest.field-0.0 c.in_err-rest.ensures)

pub returns-then-is_next-clause-gives : goal.returns-then-is_next-clause-gives
returns-then-is_next-clause-gives c =
    item_semis c.args.scope.now c.args.room (trees.before c.args.before) c.args.tokens.now c.in_ok-found.found c.in_ok-found.rest.now c.in_ok-found.ensures.gives c.in_ok-rest.rest.now (sym c.is_next.ensures ∙ c.if-is_next.true) c.in_ok-rest.ensures

pub returns-clause-gives : goal.returns-clause-gives
returns-clause-gives c =
    rw c.behind_top-before.ensures (item_alone c.args.scope.now c.args.room (trees.before c.args.before) c.args.tokens.now c.in_ok-found.found c.in_ok-found.rest.now c.in_ok-found.ensures.gives (sym c.is_next.ensures ∙ c.if-is_next.false))

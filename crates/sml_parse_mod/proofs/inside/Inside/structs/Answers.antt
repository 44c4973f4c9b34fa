use Rattle.std.proofs.Common.{sym, ◌∙◌}
use Rattle.std.proofs.lemmas.Result.{err_from_is_err_and}
use Rattle.sml_parse_mod.proofs.DeclarationHands.{structs_bar, structs_fail, structs_give}
use Rattle.sml_parse_mod.proofs.inside.Inside.structs.Goals as goal

pub returns-in_err-found-clause-gives : goal.returns-in_err-found-clause-gives
returns-in_err-found-clause-gives g c =
    let p = err_from_is_err_and c.from_residual.result c.from_residual.ensures.1 in
    rw (p.1, p.2) (structs_fail c.args.scope.now c.args.room c.args.tokens.now c.args.place c.in_err-found.field-0.0 c.in_err-found.ensures.gives)

pub returns-then-goes_on-clause-gives : goal.returns-then-goes_on-clause-gives
returns-then-goes_on-clause-gives g c = structs_bar c.args.scope.now c.args.room c.args.tokens.now c.args.place c.in_ok-found.found c.in_ok-found.rest.now c.in_ok-found.ensures.gives (sym c.goes_on.ensures ∙ c.if-goes_on.true)

pub returns-clause-gives : goal.returns-clause-gives
returns-clause-gives g c =
    structs_give c.args.scope.now c.args.room c.args.tokens.now c.args.place c.in_ok-found.found c.in_ok-found.rest.now c.in_ok-found.ensures.gives c.in_ok-structs_tree.field-0 c.in_ok-structs_tree.ensures (sym c.goes_on.ensures ∙ c.if-goes_on.false)

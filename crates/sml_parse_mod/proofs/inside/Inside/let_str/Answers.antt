use Rattle.std.proofs.lemmas.Result.{err_from_is_err_and}
use Rattle.sml_parse_mod.specs.Trees.{all_changes}
use Rattle.sml_parse_mod.proofs.Lets.{let_made}
use Rattle.sml_parse_mod.proofs.Scopes.{let_fails, let_shown_fails, outer_left}
use Rattle.sml_parse_mod.proofs.inside.Inside.let_str.Goals as goal

pub returns-in_err-decs-clause-gives : goal.returns-in_err-decs-clause-gives
returns-in_err-decs-clause-gives g c =
    let p = err_from_is_err_and c.from_residual.result c.from_residual.ensures.1 in
    rw (p.1, p.2) (let_fails c.args.scope.now c.args.room c.args.tokens.now c.args.place c.in_err-decs.field-0.0 c.in_err-decs.ensures.gives)

pub returns-in_err-found-clause-gives : goal.returns-in_err-found-clause-gives
returns-in_err-found-clause-gives g c =
    let p = err_from_is_err_and c.from_residual-in_err-found.result c.from_residual-in_err-found.ensures.1 in
    rw (p.1, p.2) (let_shown_fails c.args.scope.now c.args.room c.args.tokens.now c.args.place c.in_ok-decs.decs c.in_ok-decs.rest.now _ c.in_ok-decs.ensures.gives c.in_ok-decs.ensures.moves c.in_err-found.field-0.0 c.in_err-found.ensures.gives)

pub returns-clause-gives : goal.returns-clause-gives
returns-clause-gives g c = let_made c.args.scope.now c.args.room c.args.tokens.now c.args.place c.in_ok-decs.decs c.in_ok-decs.rest.now _ c.in_ok-decs.ensures.gives c.in_ok-decs.ensures.moves c.in_ok-found.found c.in_ok-found.rest.now c.in_ok-found.ensures.gives c.in_ok-let_tree.field-0 c.in_ok-let_tree.ensures

pub returns-clause-keeps : goal.returns-clause-keeps
returns-clause-keeps g c = outer_left c.args.scope.now (all_changes c.in_ok-decs.decs.0) _ _ _ c.in_ok-decs.ensures.moves c.count-outer.ensures c.in_ok-found.ensures.left

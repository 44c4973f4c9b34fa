use Rattle.std.proofs.Common.{sym, ap, ◌∙◌, Ok, ◌++◌}
use Rattle.std.proofs.lemmas.Result.{err_from_is_err_and}
use Rattle.sml_grammar_exp.specs.Decs.{Changes}
use Rattle.sml_grammar_mod.specs.Strs.{Sd, strdec_changes}
use Rattle.sml_parse_mod.specs.Trees.{all_changes}
use Rattle.sml_parse_mod.proofs.Locals.{local_leaves}
use Rattle.sml_parse_mod.proofs.Moved.{hidden_left}
use Rattle.sml_parse_mod.proofs.Scopes.{local_bars, local_fails, local_gives, local_shown_fails}
use Rattle.sml_parse_mod.proofs.inside.Inside.local.Goals as goal

pub returns-in_err-hidden-clause-gives : goal.returns-in_err-hidden-clause-gives
returns-in_err-hidden-clause-gives g c =
    let p = err_from_is_err_and c.from_residual.result c.from_residual.ensures.1 in
    rw (p.1, p.2) (local_fails c.args.scope.now c.args.room c.args.tokens.now c.args.place c.in_err-hidden.field-0.0 c.in_err-hidden.ensures.gives)

pub returns-in_err-shown-clause-gives : goal.returns-in_err-shown-clause-gives
returns-in_err-shown-clause-gives g c =
    let p = err_from_is_err_and c.from_residual-in_err-shown.result c.from_residual-in_err-shown.ensures.1 in
    rw (p.1, p.2) (local_shown_fails c.args.scope.now c.args.room c.args.tokens.now c.args.place c.in_ok-hidden.hidden c.in_ok-hidden.rest.now _ c.in_ok-hidden.ensures.gives c.in_ok-hidden.ensures.moves c.in_err-shown.field-0.0 c.in_err-shown.ensures.gives)

pub returns-then-goes_on-clause-gives : goal.returns-then-goes_on-clause-gives
returns-then-goes_on-clause-gives g c =
    local_bars c.args.scope.now c.args.room c.args.tokens.now c.args.place c.in_ok-hidden.hidden c.in_ok-hidden.rest.now _ c.in_ok-hidden.ensures.gives c.in_ok-hidden.ensures.moves c.in_ok-shown.shown c.in_ok-shown.rest.now c.in_ok-shown.ensures.gives (sym c.goes_on.ensures ∙ c.if-goes_on.true)

pub returns-clause-gives : goal.returns-clause-gives
returns-clause-gives g c =
    local_gives c.args.scope.now c.args.room c.args.tokens.now c.args.place c.in_ok-hidden.hidden c.in_ok-hidden.rest.now _ c.in_ok-hidden.ensures.gives c.in_ok-hidden.ensures.moves c.in_ok-shown.shown c.in_ok-shown.rest.now c.in_ok-shown.ensures.gives (sym c.goes_on.ensures ∙ c.if-goes_on.false)
    ∙ ap (λ (d : Sd). Ok (d, c.in_ok-shown.rest.now)) (sym c.in_ok-local_tree.ensures)

pub returns-clause-moves : goal.returns-clause-moves
returns-clause-moves g c =
    hidden_left c.args.scope.now (all_changes c.in_ok-hidden.hidden.0) (all_changes c.in_ok-shown.shown.0) _ _ _ c.in_ok-hidden.ensures.moves c.count-outer.ensures c.in_ok-shown.ensures.leaves
    ∙ ap (λ (z : Changes). c.args.scope.now ++ z) (sym (local_leaves c.args.place c.in_ok-hidden.hidden c.in_ok-shown.shown) ∙ ap (λ (d : Sd). strdec_changes d.0) (sym c.in_ok-local_tree.ensures))

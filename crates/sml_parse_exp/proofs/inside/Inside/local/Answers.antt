use Rattle.std.proofs.Common.{◌≡◌, suc, max, ◌++◌, sym, ap, ◌∙◌, arith}
use Rattle.std.proofs.lemmas.Result.{err_from_is_err_and}
use Rattle.sml_grammar_exp.specs.Decs.{Changes}
use Rattle.sml_parse_exp.specs.Trees as trees
use Rattle.sml_parse_exp.proofs.Changes.{local_says}
use Rattle.sml_parse_exp.proofs.Wholes.{local_first_fails, local_read, local_barred, local_fails, left_local}
use Rattle.sml_parse_exp.proofs.inside.Inside.local.Goals as goal

pub returns-in_err-hidden-clause-gives : goal.returns-in_err-hidden-clause-gives
returns-in_err-hidden-clause-gives g c =
    let p = err_from_is_err_and c.from_residual.result c.from_residual.ensures.1 in
    rw (p.1, p.2) (local_first_fails c.args.scope.now c.args.room c.args.place c.args.tokens.now c.in_err-hidden.field-0.0 c.in_err-hidden.ensures.gives)

pub returns-in_err-shown-clause-gives : goal.returns-in_err-shown-clause-gives
returns-in_err-shown-clause-gives g c =
    let p = err_from_is_err_and c.from_residual-in_err-shown.result c.from_residual-in_err-shown.ensures.1 in
    rw (p.1, p.2) (local_fails c.args.scope.now c.args.room c.args.place c.args.tokens.now _ (c.in_ok-hidden.hidden, c.in_ok-hidden.height) c.in_ok-hidden.rest.now c.in_ok-hidden.ensures.gives c.in_ok-hidden.ensures.moves c.in_err-shown.field-0.0 c.in_err-shown.ensures.gives)

pub returns-then-goes_on-clause-gives : goal.returns-then-goes_on-clause-gives
returns-then-goes_on-clause-gives g c =
    local_barred c.args.scope.now c.args.room c.args.place c.args.tokens.now _ (c.in_ok-hidden.hidden, c.in_ok-hidden.height) c.in_ok-hidden.rest.now c.in_ok-hidden.ensures.gives c.in_ok-hidden.ensures.moves (c.in_ok-shown.shown, c.in_ok-shown.other) c.in_ok-shown.rest.now c.in_ok-shown.ensures.gives (sym c.goes_on.ensures ∙ c.if-goes_on.true)

pub returns-clause-gives : goal.returns-clause-gives
returns-clause-gives g c =
    let up : c.in_ok-height.height ≡ suc (max c.in_ok-hidden.height c.in_ok-shown.other) = omega (arith, c.in_ok-height.ensures) in
    rw up (local_read c.args.scope.now c.args.room c.args.place c.args.tokens.now _ (c.in_ok-hidden.hidden, c.in_ok-hidden.height) c.in_ok-hidden.rest.now c.in_ok-hidden.ensures.gives c.in_ok-hidden.ensures.moves (c.in_ok-shown.shown, c.in_ok-shown.other) c.in_ok-shown.rest.now c.in_ok-shown.ensures.gives (sym c.goes_on.ensures ∙ c.if-goes_on.false))

pub returns-clause-moves : goal.returns-clause-moves
returns-clause-moves g c =
    left_local c.args.scope.now _ _ _ _ (trees.all_changes c.in_ok-shown.shown) c.count-outer.result c.count-inner.result c.count-outer.ensures c.in_ok-hidden.ensures.moves c.count-inner.ensures c.in_ok-shown.ensures.moves c.in_ok-leave_local.ensures
    ∙ ap (λ (cs : Changes). c.args.scope.now ++ cs) (sym (local_says c.args.place c.in_ok-hidden.hidden c.in_ok-shown.shown))

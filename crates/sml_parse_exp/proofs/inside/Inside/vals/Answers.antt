use Rattle.std.proofs.Common.{◌≡◌, suc, sym, ◌∙◌, arith}
use Rattle.std.proofs.lemmas.Result.{err_from_is_err_and}
use Rattle.sml_parse_exp.proofs.Changes.{vals_say, none_new}
use Rattle.sml_parse_exp.proofs.Wholes.{vals_first_fails, vals_read, vals_barred, vals_fails}
use Rattle.sml_parse_exp.proofs.inside.Inside.vals.Goals as goal

pub returns-in_err-vars-clause-gives : goal.returns-in_err-vars-clause-gives
returns-in_err-vars-clause-gives g c =
    let p = err_from_is_err_and c.from_residual.result c.from_residual.ensures.1 in
    rw (p.1, p.2) (vals_first_fails c.args.scope.now c.args.room c.args.place c.args.tokens.now c.in_err-vars.field-0.0 c.in_err-vars.ensures)

pub returns-in_err-is_rec-clause-gives : goal.returns-in_err-is_rec-clause-gives
returns-in_err-is_rec-clause-gives g c =
    let p = err_from_is_err_and c.from_residual-in_err-is_rec.result c.from_residual-in_err-is_rec.ensures.1 in
    rw (p.1, p.2) (vals_fails c.args.scope.now c.args.room c.args.place c.args.tokens.now c.in_ok-vars.vars c.in_ok-vars.rest.now c.in_ok-vars.ensures c.in_err-is_rec.field-0.0 c.in_err-is_rec.ensures.gives)

pub returns-then-goes_on-clause-gives : goal.returns-then-goes_on-clause-gives
returns-then-goes_on-clause-gives g c =
    vals_barred c.args.scope.now c.args.room c.args.place c.args.tokens.now c.in_ok-vars.vars c.in_ok-vars.rest.now c.in_ok-vars.ensures ((c.in_ok-is_rec.is_rec, c.in_ok-is_rec.found), c.in_ok-is_rec.height) c.in_ok-is_rec.rest.now c.in_ok-is_rec.ensures.gives (sym c.goes_on.ensures ∙ c.if-goes_on.true)

pub returns-clause-gives : goal.returns-clause-gives
returns-clause-gives g c =
    let up : c.in_ok-height.height ≡ suc c.in_ok-is_rec.height = omega (arith, c.in_ok-height.ensures) in
    rw (up, c.listed-vars.ensures) (vals_read c.args.scope.now c.args.room c.args.place c.args.tokens.now c.in_ok-vars.vars c.in_ok-vars.rest.now c.in_ok-vars.ensures ((c.in_ok-is_rec.is_rec, c.in_ok-is_rec.found), c.in_ok-is_rec.height) c.in_ok-is_rec.rest.now c.in_ok-is_rec.ensures.gives (sym c.goes_on.ensures ∙ c.if-goes_on.false))

pub returns-clause-moves : goal.returns-clause-moves
returns-clause-moves g c = none_new _ c.args.scope.now _ (vals_say c.args.place c.listed-vars.result c.in_ok-is_rec.is_rec c.in_ok-is_rec.found) c.in_ok-is_rec.ensures.keeps

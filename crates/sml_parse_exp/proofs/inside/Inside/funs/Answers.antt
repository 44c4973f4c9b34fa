use Rattle.std.proofs.Common.{◌≡◌, suc, Bool, sym, ap, subst, ◌∙◌, arith}
use Rattle.std.proofs.lemmas.Result.{err_from_is_err_and}
use Rattle.readers.specs.Given.{Fails}
use Rattle.sml_parse_bind.specs.Levels as binds
use Rattle.sml_parse_exp.proofs.Changes.{funs_say, none_new}
use Rattle.sml_parse_exp.proofs.Wholes.{funs_first_fails, funs_read, funs_barred, funs_fails}
use Rattle.sml_parse_exp.proofs.inside.Inside.funs.Goals as goal

pub returns-in_err-vars-clause-gives : goal.returns-in_err-vars-clause-gives
returns-in_err-vars-clause-gives g c =
    let p = err_from_is_err_and c.from_residual.result c.from_residual.ensures.1 in
    rw (p.1, p.2) (funs_first_fails c.args.scope.now c.args.room c.args.place c.args.tokens.now c.in_err-vars.field-0.0 (subst (λ (b : Bool). Fails c.in_err-vars.field-0.0 (binds.under_by b c.args.tokens.now)) c.has_operator.ensures c.in_err-vars.ensures))

pub returns-in_err-found-clause-gives : goal.returns-in_err-found-clause-gives
returns-in_err-found-clause-gives g c =
    let p = err_from_is_err_and c.from_residual-in_err-found.result c.from_residual-in_err-found.ensures.1 in
    rw (p.1, p.2) (funs_fails c.args.scope.now c.args.room c.args.place c.args.tokens.now c.in_ok-vars.vars c.in_ok-vars.rest.now (ap (λ (b : Bool). binds.under_by b c.args.tokens.now) (sym c.has_operator.ensures) ∙ c.in_ok-vars.ensures) c.in_err-found.field-0.0 c.in_err-found.ensures.gives)

pub returns-then-goes_on-clause-gives : goal.returns-then-goes_on-clause-gives
returns-then-goes_on-clause-gives g c =
    funs_barred c.args.scope.now c.args.room c.args.place c.args.tokens.now c.in_ok-vars.vars c.in_ok-vars.rest.now (ap (λ (b : Bool). binds.under_by b c.args.tokens.now) (sym c.has_operator.ensures) ∙ c.in_ok-vars.ensures) (c.in_ok-found.found, c.in_ok-found.height) c.in_ok-found.rest.now c.in_ok-found.ensures.gives (sym c.goes_on.ensures ∙ c.if-goes_on.true)

pub returns-clause-gives : goal.returns-clause-gives
returns-clause-gives g c =
    let up : c.in_ok-height.height ≡ suc c.in_ok-found.height = omega (arith, c.in_ok-height.ensures) in
    rw (up, c.listed-vars.ensures) (funs_read c.args.scope.now c.args.room c.args.place c.args.tokens.now c.in_ok-vars.vars c.in_ok-vars.rest.now (ap (λ (b : Bool). binds.under_by b c.args.tokens.now) (sym c.has_operator.ensures) ∙ c.in_ok-vars.ensures) (c.in_ok-found.found, c.in_ok-found.height) c.in_ok-found.rest.now c.in_ok-found.ensures.gives (sym c.goes_on.ensures ∙ c.if-goes_on.false))

pub returns-clause-moves : goal.returns-clause-moves
returns-clause-moves g c = none_new _ c.args.scope.now _ (funs_say c.args.place c.listed-vars.result c.in_ok-found.found) c.in_ok-found.ensures.keeps

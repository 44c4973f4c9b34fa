use Rattle.std.proofs.Common.{◌≡◌, suc, max, ◌++◌, sym, ap, subst, ◌∙◌, arith}
use Rattle.std.proofs.lemmas.Result.{err_from_is_err_and}
use Rattle.readers.specs.Reader.{mapped}
use Rattle.readers.specs.Given.{Fails}
use Rattle.sml_fix.specs.Fixities.{Settings}
use Rattle.sml_grammar_exp.specs.Decs.{Changes}
use Rattle.sml_parse_bind.specs.Levels as binds
use Rattle.sml_parse_bind.specs.Rows as rows
use Rattle.sml_parse_exp.proofs.Changes.{abs_says}
use Rattle.sml_parse_exp.proofs.Wholes.{abs_first_fails, abs_read, abs_barred, abs_fails}
use Rattle.sml_parse_exp.proofs.inside.Inside.abstype.Goals as goal

pub returns-in_err-found-clause-gives : goal.returns-in_err-found-clause-gives
returns-in_err-found-clause-gives g c =
    let p = err_from_is_err_and c.from_residual.result c.from_residual.ensures.1 in
    rw (p.1, p.2) (abs_first_fails c.args.scope.now c.args.room c.args.place c.args.tokens.now c.in_err-found.field-0.0
    (subst (λ (f : Settings). Fails c.in_err-found.field-0.0 (mapped rows.abstract_types (binds.abstract_types f c.args.room) c.args.tokens.now)) c.fixities.ensures c.in_err-found.ensures))

pub returns-in_err-decs-clause-gives : goal.returns-in_err-decs-clause-gives
returns-in_err-decs-clause-gives g c =
    let p = err_from_is_err_and c.from_residual-in_err-decs.result c.from_residual-in_err-decs.ensures.1 in
    rw (p.1, p.2) (abs_fails c.args.scope.now c.args.room c.args.place c.args.tokens.now ((c.in_ok-found.found, c.in_ok-found.types), c.in_ok-found.height) c.in_ok-found.rest.now
    (ap (λ (f : Settings). mapped rows.abstract_types (binds.abstract_types f c.args.room) c.args.tokens.now) (sym c.fixities.ensures) ∙ c.in_ok-found.ensures) c.in_err-decs.field-0.0 c.in_err-decs.ensures.gives)

pub returns-then-goes_on-clause-gives : goal.returns-then-goes_on-clause-gives
returns-then-goes_on-clause-gives g c =
    abs_barred c.args.scope.now c.args.room c.args.place c.args.tokens.now ((c.in_ok-found.found, c.in_ok-found.types), c.in_ok-found.height) c.in_ok-found.rest.now
    (ap (λ (f : Settings). mapped rows.abstract_types (binds.abstract_types f c.args.room) c.args.tokens.now) (sym c.fixities.ensures) ∙ c.in_ok-found.ensures) (c.in_ok-decs.decs, c.in_ok-decs.other) c.in_ok-decs.rest.now c.in_ok-decs.ensures.gives (sym c.goes_on.ensures ∙ c.if-goes_on.true)

pub returns-clause-gives : goal.returns-clause-gives
returns-clause-gives g c =
    let up : c.in_ok-height.height ≡ suc (max c.in_ok-found.height c.in_ok-decs.other) = omega (arith, c.in_ok-height.ensures) in
    rw up (abs_read c.args.scope.now c.args.room c.args.place c.args.tokens.now ((c.in_ok-found.found, c.in_ok-found.types), c.in_ok-found.height) c.in_ok-found.rest.now
    (ap (λ (f : Settings). mapped rows.abstract_types (binds.abstract_types f c.args.room) c.args.tokens.now) (sym c.fixities.ensures) ∙ c.in_ok-found.ensures) (c.in_ok-decs.decs, c.in_ok-decs.other) c.in_ok-decs.rest.now c.in_ok-decs.ensures.gives (sym c.goes_on.ensures ∙ c.if-goes_on.false))

pub returns-clause-moves : goal.returns-clause-moves
returns-clause-moves g c = c.in_ok-decs.ensures.moves ∙ ap (λ (cs : Changes). c.args.scope.now ++ cs) (sym (abs_says c.args.place c.in_ok-found.found c.in_ok-found.types c.in_ok-decs.decs))

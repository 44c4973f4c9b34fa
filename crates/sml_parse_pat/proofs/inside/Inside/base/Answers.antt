use Rattle.std.proofs.Common.{sym, ap, subst, ◌∙◌}
use Rattle.std.proofs.lemmas.Result.{err_from_is_err_and}
use Rattle.readers.specs.declared.floor.Floor.{Floor}
use Rattle.readers.specs.Given.{Fails}
use Rattle.readers.specs.Infix.{ground}
use Rattle.sml_fix.specs.Fixities.{settings}
use Rattle.sml_grammar.specs.Tokens.{tokens_of}
use Rattle.sml_grammar.specs.ReadPats as read
use Rattle.sml_parse_pat.specs.Levels as levels
use Rattle.sml_parse_pat.proofs.Parts.{held, barred, lost}
use Rattle.sml_parse_pat.proofs.inside.Inside.base.Goals as goal

pub returns-in_err-found : goal.returns-in_err-found
returns-in_err-found g c =
    let fix = settings c.args.self.now.fix.now in
    let p = err_from_is_err_and c.from_residual.result c.from_residual.ensures.1 in
    rw (p.1, p.2) (lost (tokens_of read.inner_goes) (levels.row_level fix c.args.room ground) c.in_err-found.field-0.0 c.args.tokens.now
    (subst (λ (n : Floor). Fails c.in_err-found.field-0.0 (levels.row_level fix c.args.room n c.args.tokens.now)) c.ground.ensures c.in_err-found.ensures))

pub returns-then-goes_inside : goal.returns-then-goes_inside
returns-then-goes_inside g c =
    let fix = settings c.args.self.now.fix.now in
    barred (tokens_of read.inner_goes) (levels.row_level fix c.args.room ground) c.args.tokens.now (c.in_ok-found.found, c.in_ok-found.rest.now)
    (ap (λ (n : Floor). levels.row_level fix c.args.room n c.args.tokens.now) (sym c.ground.ensures) ∙ c.in_ok-found.ensures) (sym c.goes_inside.ensures ∙ c.if-goes_inside.true)

pub returns : goal.returns
returns g c =
    let fix = settings c.args.self.now.fix.now in
    held (tokens_of read.inner_goes) (levels.row_level fix c.args.room ground) c.args.tokens.now (c.in_ok-found.found, c.in_ok-found.rest.now)
    (ap (λ (n : Floor). levels.row_level fix c.args.room n c.args.tokens.now) (sym c.ground.ensures) ∙ c.in_ok-found.ensures) (sym c.goes_inside.ensures ∙ c.if-goes_inside.false)

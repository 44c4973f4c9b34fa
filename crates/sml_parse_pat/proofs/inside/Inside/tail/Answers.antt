use Rattle.std.proofs.Common.{sym, ◌∙◌}
use Rattle.std.proofs.lemmas.Result.{err_from_is_err_and}
use Rattle.sml_fix.specs.Fixities.{settings}
use Rattle.sml_grammar.specs.Tokens.{tokens_of}
use Rattle.sml_grammar.specs.Pats.{vid_field_of}
use Rattle.sml_grammar.specs.ReadPats as read
use Rattle.sml_parse_pat.specs.Levels as levels
use Rattle.sml_parse_pat.proofs.Parts.{ended_gives, ended_bars, ended_fails}
use Rattle.sml_parse_pat.proofs.inside.Inside.tail.Goals as goal

pub returns-in_err-field : goal.returns-in_err-field
returns-in_err-field g c =
    let fix = settings c.args.self.now.fix.now in
    let p = err_from_is_err_and c.from_residual.result c.from_residual.ensures.1 in
    rw (p.1, p.2) (ended_fails (λ t. vid_field_of (c.args.names, t)) (tokens_of read.field_goes) (levels.open_tail fix c.args.room) c.in_err-field.field-0.0 c.args.tokens.now c.in_err-field.ensures)

pub returns-then-goes_in_field : goal.returns-then-goes_in_field
returns-then-goes_in_field g c =
    let fix = settings c.args.self.now.fix.now in
    ended_bars (λ t. vid_field_of (c.args.names, t)) (tokens_of read.field_goes) (levels.open_tail fix c.args.room) c.args.tokens.now (c.in_ok-field.field, c.in_ok-field.rest.now) c.in_ok-field.ensures (sym c.goes_in_field.ensures ∙ c.if-goes_in_field.true)

pub returns : goal.returns
returns g c =
    let fix = settings c.args.self.now.fix.now in
    ended_gives (λ t. vid_field_of (c.args.names, t)) (tokens_of read.field_goes) (levels.open_tail fix c.args.room) c.args.tokens.now (c.in_ok-field.field, c.in_ok-field.rest.now) c.in_ok-field.ensures (sym c.goes_in_field.ensures ∙ c.if-goes_in_field.false)

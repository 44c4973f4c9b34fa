use Rattle.std.proofs.Common.{ℕ, Option, sym, ◌∙◌}
use Rattle.std.proofs.lemmas.Result.{err_from_is_err_and}
use Rattle.readers.specs.Reader.{Reader, both}
use Rattle.readers.specs.Forms.{optional}
use Rattle.sml_lex.specs.declared.token.Token.{Token}
use Rattle.sml_fix.specs.Fixities.{Settings, settings}
use Rattle.sml_grammar.specs.Tokens.{tokens_of}
use Rattle.sml_grammar.specs.ReadTypes.{ty_read}
use Rattle.sml_grammar_exp.specs.Binds.{Vid, Given, exbind_of}
use Rattle.sml_grammar_exp.specs.ReadBinds.{exn_goes, vid_read, begins_given, given_read}
use Rattle.sml_parse_bind.proofs.Steps.{ended_gives, ended_bars, ended_fails}
use Rattle.sml_parse_bind.proofs.exbind.level.Goals as goal

abbrev made : Settings → ℕ → Reader Token (Vid × Option Given)
made fix h = both (vid_read fix) (optional begins_given (given_read fix (ty_read h) h))

pub returns-in_err-made : goal.returns-in_err-made
returns-in_err-made c =
    let p = err_from_is_err_and c.from_residual.result c.from_residual.ensures.1 in
    rw (p.1, p.2) (ended_fails exbind_of (tokens_of exn_goes) (made (settings c.args.fix.now) c.args.room) c.in_err-made.field-0.0 c.args.tokens.now c.in_err-made.ensures)

pub returns-then-goes_in_exn : goal.returns-then-goes_in_exn
returns-then-goes_in_exn c =
    ended_bars exbind_of (tokens_of exn_goes) (made (settings c.args.fix.now) c.args.room) c.args.tokens.now (c.in_ok-made.made, c.in_ok-made.rest.now) c.in_ok-made.ensures (sym c.goes_in_exn.ensures ∙ c.if-goes_in_exn.true)

pub returns : goal.returns
returns c =
    ended_gives exbind_of (tokens_of exn_goes) (made (settings c.args.fix.now) c.args.room) c.args.tokens.now (c.in_ok-made.made, c.in_ok-made.rest.now) c.in_ok-made.ensures (sym c.goes_in_exn.ensures ∙ c.if-goes_in_exn.false)

use Rattle.std.proofs.Common.{suc, ◌≡◌, arith}
use Rattle.std.proofs.lemmas.Result.{err_from_is_err_and}
use Rattle.readers.specs.Forms.{seps}
use Rattle.sml_fix.specs.Fixities.{settings}
use Rattle.sml_grammar.specs.Words.{BAR}
use Rattle.sml_grammar.specs.Tokens.{is}
use Rattle.sml_grammar.specs.ReadTypes.{ty_read}
use Rattle.sml_grammar_exp.specs.Binds.{Cs}
use Rattle.sml_grammar_exp.specs.ReadBinds.{con_read}
use Rattle.sml_parse_bind.specs.Rows as rows
use Rattle.sml_parse_bind.proofs.Seen.{seen_gives, seen_fails}
use Rattle.sml_parse_bind.proofs.constructor.level.Goals as goal

abbrev higher : Cs → Cs
higher x = (x.0, suc x.1)

pub returns-in_err-found : goal.returns-in_err-found
returns-in_err-found c =
    let p = err_from_is_err_and c.from_residual.result c.from_residual.ensures.1 in
    rw (p.1, p.2) (seen_fails rows.cons higher (seps (is BAR) (con_read (settings c.args.fix.now) (ty_read c.args.room) c.args.room)) c.in_err-found.field-0.0 c.args.tokens.now c.in_err-found.ensures)

pub returns : goal.returns
returns c =
    let up : c.in_ok-height.height ≡ suc c.in_ok-found.height = omega (arith, c.in_ok-height.ensures) in
    rw up (seen_gives rows.cons higher (seps (is BAR) (con_read (settings c.args.fix.now) (ty_read c.args.room) c.args.room)) c.args.tokens.now ((c.in_ok-found.found, c.in_ok-found.height), c.in_ok-found.rest.now) c.in_ok-found.ensures)

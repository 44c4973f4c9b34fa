use Rattle.std.proofs.Common.{sym, ◌∙◌}
use Rattle.std.proofs.lemmas.Result.{err_from_is_err_and}
use Rattle.sml_fix.specs.Fixities.{settings}
use Rattle.sml_grammar.specs.Pats.{operand_of}
use Rattle.sml_grammar.specs.ReadPats as read
use Rattle.sml_parse_pat.specs.Levels as levels
use Rattle.sml_parse_pat.proofs.Parts.{ended_gives, ended_bars, ended_fails}
use Rattle.sml_parse_pat.proofs.inside.Inside.operand.Goals as goal

pub returns-in_err-found : goal.returns-in_err-found
returns-in_err-found g c =
    let fix = settings c.args.self.now.fix.now in
    let p = err_from_is_err_and c.from_residual.result c.from_residual.ensures.1 in
    rw (p.1, p.2) (ended_fails operand_of (read.begins_at fix) (levels.bare_operand fix c.args.room) c.in_err-found.field-0.0 c.args.tokens.now c.in_err-found.ensures)

pub returns-then-begins_at : goal.returns-then-begins_at
returns-then-begins_at g c =
    let fix = settings c.args.self.now.fix.now in
    ended_bars operand_of (read.begins_at fix) (levels.bare_operand fix c.args.room) c.args.tokens.now (c.in_ok-found.found, c.in_ok-found.rest.now) c.in_ok-found.ensures (sym c.begins_at.ensures ∙ c.if-begins_at.true)

pub returns : goal.returns
returns g c =
    let fix = settings c.args.self.now.fix.now in
    ended_gives operand_of (read.begins_at fix) (levels.bare_operand fix c.args.room) c.args.tokens.now (c.in_ok-found.found, c.in_ok-found.rest.now) c.in_ok-found.ensures (sym c.begins_at.ensures ∙ c.if-begins_at.false)

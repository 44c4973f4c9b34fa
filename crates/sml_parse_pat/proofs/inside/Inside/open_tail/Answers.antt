use Rattle.std.proofs.Common.{sym, ◌∙◌, arith}
use Rattle.sml_fix.specs.Fixities.{settings}
use Rattle.sml_parse_pat.proofs.Parts.{tail_in, tail_none}
use Rattle.sml_parse_pat.proofs.inside.Inside.open_tail.Goals as goal

pub returns-then-not-begins_tail : goal.returns-then-not-begins_tail
returns-then-not-begins_tail g c =
    rw (c.pun.ensures c.args.names.0) (tail_none (settings c.args.self.now.fix.now) c.args.room c.args.names c.args.tokens.now (sym c.begins_tail.ensures ∙ c.if-not-begins_tail.true))

pub returns : goal.returns
returns g c =
    rw (tail_in (settings c.args.self.now.fix.now) c.args.room c.args.names c.args.tokens.now (sym c.begins_tail.ensures ∙ c.if-not-begins_tail.false) (let some = c.if-room-eq0.false in omega arith)) c.some_tail.ensures

use Rattle.std.proofs.Common.{sym, ◌∙◌, arith}
use Rattle.sml_fix.specs.Fixities.{settings}
use Rattle.sml_parse_pat.proofs.Parts.{typed_in}
use Rattle.sml_parse_pat.proofs.inside.Inside.some_tail.Goals as goal

pub returns-then-is_next : goal.returns-then-is_next
returns-then-is_next g c =
    rw (typed_in (settings c.args.self.now.fix.now) c.args.room c.args.names c.args.tokens.now (sym c.is_next.ensures ∙ c.if-is_next.true) (let some = c.if-room-eq0.false in omega arith)) c.typed_tail.ensures

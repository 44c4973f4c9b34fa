use Rattle.std.proofs.Common.{sym, ◌∙◌}
use Rattle.sml_fix.specs.Fixities.{settings}
use Rattle.sml_parse_bind.proofs.Hands.{given_same}
use Rattle.sml_parse_bind.proofs.exbind.given.Goals as goal

pub returns-then-is_next : goal.returns-then-is_next
returns-then-is_next c = rw (given_same (settings c.args.fix.now) c.args.room c.args.made c.args.tokens.now (sym c.is_next.ensures ∙ c.if-is_next.true)) c.same.ensures

use Rattle.std.proofs.Common.{sym, ◌∙◌}
use Rattle.sml_parse_sig.proofs.Hands.{right_copied}
use Rattle.sml_parse_sig.proofs.data.right.Goals as goal

pub returns-then-is_next : goal.returns-then-is_next
returns-then-is_next c = rw (right_copied c.args.room c.args.place c.args.name c.args.tokens.now (sym c.is_next.ensures ∙ c.if-is_next.true)) c.copied.ensures

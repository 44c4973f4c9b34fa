use Rattle.std.proofs.Common.{sym, ◌∙◌}
use Rattle.sml_parse_sig.proofs.Hands.{behind_equal, behind_names}
use Rattle.sml_parse_sig.proofs.parts.behind_name.Goals as goal

pub returns-then-is_next : goal.returns-then-is_next
returns-then-is_next c = rw (behind_equal c.args.room c.args.tokens.now (sym c.is_next.ensures ∙ c.if-is_next.true)) c.equal.ensures

pub returns : goal.returns
returns c = rw (behind_names c.args.room c.args.tokens.now (sym c.is_next.ensures ∙ c.if-is_next.false)) c.further_names.ensures

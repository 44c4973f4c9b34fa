use Rattle.std.proofs.Common.{sym, ◌∙◌}
use Rattle.sml_parse_sig.proofs.Hands.{shared_types, shared_structures}
use Rattle.sml_parse_sig.proofs.parts.shared.Goals as goal

pub returns-then-is_next : goal.returns-then-is_next
returns-then-is_next c = rw (shared_types c.args.place c.args.tokens.now c.in_ok-rest.rest.now (sym c.is_next.ensures ∙ c.if-is_next.true) c.in_ok-rest.ensures) c.share_types.ensures

pub returns : goal.returns
returns c = rw (shared_structures c.args.place c.args.tokens.now (sym c.is_next.ensures ∙ c.if-is_next.false)) c.share_structures.ensures

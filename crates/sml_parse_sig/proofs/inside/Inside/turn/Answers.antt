use Rattle.std.proofs.Common.{sym, ◌∙◌}
use Rattle.sml_parse_sig.proofs.Hands.{turn_further, turn_where}
use Rattle.sml_parse_sig.proofs.inside.Inside.turn.Goals as goal

pub returns-then-is_next : goal.returns-then-is_next
returns-then-is_next g c =
    rw (turn_further c.args.word c.args.room c.args.sig.now _ c.in_ok-needed.ensures c.args.tokens.now _ c.in_ok-rest.rest.now c.ends_with_where.ensures (sym c.is_next.ensures ∙ c.if-is_next.true) c.in_ok-rest.ensures) c.further.ensures

pub returns : goal.returns
returns g c = rw (turn_where c.args.word c.args.room c.args.sig.now _ c.in_ok-needed.ensures c.args.tokens.now (sym c.is_next.ensures ∙ c.if-is_next.false)) c.there.ensures

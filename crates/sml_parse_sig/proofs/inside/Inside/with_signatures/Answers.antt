use Rattle.std.proofs.Common.{sym, ◌∙◌, arith}
use Rattle.sml_parse_sig.proofs.Hands.{values_in, structures_in}
use Rattle.sml_parse_sig.proofs.inside.Inside.with_signatures.Goals as goal

pub returns-then-is_next : goal.returns-then-is_next
returns-then-is_next g c =
    rw (values_in c.args.room c.in_ok-place.place c.args.tokens.now c.in_ok-place.rest.now (sym c.is_next.ensures ∙ c.if-is_next.true) (let le = c.if-room-lt1.false in omega arith) c.in_ok-place.ensures) c.values.ensures

pub returns : goal.returns
returns g c =
    rw (structures_in c.args.room c.in_ok-place-2.place c.args.tokens.now c.in_ok-place-2.rest.now (sym c.is_next.ensures ∙ c.if-is_next.false) (sym c.is_next-2.ensures ∙ c.if-not-is_next.false) (let le = c.if-room-lt1-2.false in omega arith)
    c.in_ok-place-2.ensures) c.structures.ensures

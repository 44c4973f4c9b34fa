use Rattle.std.proofs.Common.{sym, ◌∙◌}
use Rattle.sml_parse_sig.proofs.Hands.{types_in, datas_in, exns_in}
use Rattle.sml_parse_sig.proofs.inside.Inside.with_types.Goals as goal

pub returns-then-is_next : goal.returns-then-is_next
returns-then-is_next g c = rw (types_in c.args.room c.in_ok-place.place c.args.tokens.now c.in_ok-place.rest.now (sym c.is_next.ensures ∙ c.if-is_next.true) c.in_ok-place.ensures) c.types.ensures

pub returns-then-is_next-2 : goal.returns-then-is_next-2
returns-then-is_next-2 g c =
    rw (datas_in c.args.room c.in_ok-place-2.place c.args.tokens.now c.in_ok-place-2.rest.now (sym c.is_next.ensures ∙ c.if-is_next.false) (sym c.is_next-2.ensures ∙ c.if-is_next-2.true) c.in_ok-place-2.ensures) c.datatype.ensures

pub returns-then-is_next-3 : goal.returns-then-is_next-3
returns-then-is_next-3 g c =
    rw (exns_in c.args.room c.in_ok-place-3.place c.args.tokens.now c.in_ok-place-3.rest.now (sym c.is_next.ensures ∙ c.if-is_next.false) (sym c.is_next-2.ensures ∙ c.if-is_next-2.false) (sym c.is_next-3.ensures ∙ c.if-is_next-3.true)
    c.in_ok-place-3.ensures) c.exceptions.ensures

use Rattle.std.proofs.Common.{sym, ◌∙◌}
use Rattle.sml_parse_sig.proofs.Hands.{include_in, eqtypes_in, sharing_of_in}
use Rattle.sml_parse_sig.proofs.inside.Inside.level.Goals as goal

pub returns-then-is_next : goal.returns-then-is_next
returns-then-is_next g c = rw (include_in c.args.room c.in_ok-place.place c.args.tokens.now c.in_ok-place.rest.now (sym c.is_next.ensures ∙ c.if-is_next.true) c.in_ok-place.ensures) c.include.ensures

pub returns-then-is_next-2 : goal.returns-then-is_next-2
returns-then-is_next-2 g c =
    rw (eqtypes_in c.args.room c.in_ok-place-2.place c.args.tokens.now c.in_ok-place-2.rest.now (sym c.is_next.ensures ∙ c.if-is_next.false) (sym c.is_next-2.ensures ∙ c.if-is_next-2.true) c.in_ok-place-2.ensures) c.eqtypes.ensures

pub returns-then-is_next-3 : goal.returns-then-is_next-3
returns-then-is_next-3 g c =
    rw (sharing_of_in c.args.room c.in_ok-place-3.place c.args.tokens.now c.in_ok-place-3.rest.now (sym c.is_next.ensures ∙ c.if-is_next.false) (sym c.is_next-2.ensures ∙ c.if-is_next-2.false) (sym c.is_next-3.ensures ∙ c.if-is_next-3.true)
    c.in_ok-place-3.ensures) c.sharing.ensures

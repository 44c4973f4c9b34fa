use Rattle.std.proofs.Common.{sym, ◌∙◌, arith}
use Rattle.sml_parse_exp.proofs.Hands.{items_in, paren_in}
use Rattle.sml_parse_exp.proofs.inside.Inside.enclosed.Goals as goal

pub returns-then-is_next-clause-gives : goal.returns-then-is_next-clause-gives
returns-then-is_next-clause-gives g c =
    rw (items_in c.args.scope.now c.args.room c.args.tokens.now c.in_ok-place.rest.now c.in_ok-place.place (sym c.is_next.ensures ∙ c.if-is_next.true) c.in_ok-place.ensures) c.items.ensures.gives

pub returns-then-is_next-2-clause-gives : goal.returns-then-is_next-2-clause-gives
returns-then-is_next-2-clause-gives g c =
    rw (paren_in c.args.scope.now c.args.room c.args.tokens.now c.in_ok-place-2.rest.now c.in_ok-place-2.place (sym c.is_next.ensures ∙ c.if-is_next.false) (sym c.is_next-2.ensures ∙ c.if-is_next-2.true) c.in_ok-place-2.ensures) c.paren.ensures.gives

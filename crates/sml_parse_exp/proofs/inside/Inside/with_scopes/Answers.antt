use Rattle.std.proofs.Common.{sym, ◌∙◌}
use Rattle.sml_parse_exp.proofs.Hands.{infixr_in, nonfix_in, local_in}
use Rattle.sml_parse_exp.proofs.inside.Inside.with_scopes.Goals as goal

pub returns-then-is_next-clause-gives : goal.returns-then-is_next-clause-gives
returns-then-is_next-clause-gives g c =
    rw (infixr_in c.args.scope.now c.args.room c.args.tokens.now c.in_ok-place.rest.now c.in_ok-place.place (sym c.is_next.ensures ∙ c.if-is_next.true) c.in_ok-place.ensures) c.infix.ensures.gives

pub returns-then-is_next-2-clause-gives : goal.returns-then-is_next-2-clause-gives
returns-then-is_next-2-clause-gives g c =
    rw (nonfix_in c.args.scope.now c.args.room c.args.tokens.now c.in_ok-place-2.rest.now c.in_ok-place-2.place (sym c.is_next.ensures ∙ c.if-is_next.false) (sym c.is_next-2.ensures ∙ c.if-is_next-2.true) c.in_ok-place-2.ensures) c.nonfix.ensures.gives

pub returns-then-is_next-3-clause-gives : goal.returns-then-is_next-3-clause-gives
returns-then-is_next-3-clause-gives g c =
    rw (local_in c.args.scope.now c.args.room c.args.tokens.now c.in_ok-place-3.rest.now c.in_ok-place-3.place (sym c.is_next.ensures ∙ c.if-is_next.false) (sym c.is_next-2.ensures ∙ c.if-is_next-2.false) (sym c.is_next-3.ensures ∙ c.if-is_next-3.true) c.in_ok-place-3.ensures) c.local.ensures.gives

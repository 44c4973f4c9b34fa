use Rattle.std.proofs.Common.{sym, ◌∙◌, arith}
use Rattle.sml_parse_mod.proofs.Hands.{body_in, let_in, named_in}
use Rattle.sml_parse_mod.proofs.inside.Inside.base_level.Goals as goal

pub returns-then-is_next-clause-gives : goal.returns-then-is_next-clause-gives
returns-then-is_next-clause-gives g c =
    rw (body_in c.args.scope.now c.args.room c.args.tokens.now c.in_ok-place.place c.in_ok-place.rest.now (sym c.is_next.ensures ∙ c.if-is_next.true) c.in_ok-place.ensures) c.body.ensures.gives

pub returns-then-is_next-2-clause-gives : goal.returns-then-is_next-2-clause-gives
returns-then-is_next-2-clause-gives g c =
    rw (let_in c.args.scope.now c.args.room c.args.tokens.now c.in_ok-place-2.place c.in_ok-place-2.rest.now (sym c.is_next.ensures ∙ c.if-is_next.false) (sym c.is_next-2.ensures ∙ c.if-is_next-2.true) (let le = c.if-room-lt1.false in omega arith) c.in_ok-place-2.ensures) c.let_str.ensures.gives

pub returns-then-is_strid-clause-gives : goal.returns-then-is_strid-clause-gives
returns-then-is_strid-clause-gives g c =
    rw (named_in c.args.scope.now c.args.room c.args.tokens.now (sym c.is_next.ensures ∙ c.if-is_next.false) (sym c.is_next-2.ensures ∙ c.if-is_next-2.false) (sym c.is_strid.ensures ∙ c.if-is_strid.true)) c.named.ensures.gives

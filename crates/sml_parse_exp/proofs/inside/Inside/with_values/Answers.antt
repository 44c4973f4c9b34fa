use Rattle.std.proofs.Common.{sym, ◌∙◌, arith}
use Rattle.sml_parse_exp.proofs.Hands.{abstype_in, vals_in, funs_in}
use Rattle.sml_parse_exp.proofs.inside.Inside.with_values.Goals as goal

pub returns-then-is_next-clause-gives : goal.returns-then-is_next-clause-gives
returns-then-is_next-clause-gives g c =
    rw (abstype_in c.args.scope.now c.args.room c.args.tokens.now c.in_ok-place.rest.now c.in_ok-place.place (sym c.is_next.ensures ∙ c.if-is_next.true) (let le = c.if-room-lt1.false in omega arith) c.in_ok-place.ensures) c.abstype.ensures.gives

pub returns-then-is_next-2-clause-gives : goal.returns-then-is_next-2-clause-gives
returns-then-is_next-2-clause-gives g c =
    rw (vals_in c.args.scope.now c.args.room c.args.tokens.now c.in_ok-place-2.rest.now c.in_ok-place-2.place (sym c.is_next.ensures ∙ c.if-is_next.false) (sym c.is_next-2.ensures ∙ c.if-is_next-2.true) (let le = c.if-room-lt2.false in omega arith) c.in_ok-place-2.ensures) c.vals.ensures.gives

pub returns-clause-gives : goal.returns-clause-gives
returns-clause-gives g c =
    rw (funs_in c.args.scope.now c.args.room c.args.tokens.now c.in_ok-place-3.rest.now c.in_ok-place-3.place (sym c.is_next.ensures ∙ c.if-is_next.false) (sym c.is_next-2.ensures ∙ c.if-is_next-2.false) (sym c.is_next-3.ensures ∙ c.if-not-is_next.false) (let le = c.if-room-lt3.false in omega arith) c.in_ok-place-3.ensures) c.funs.ensures.gives

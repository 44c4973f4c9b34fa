use Rattle.std.proofs.Common.{sym, ◌∙◌, arith}
use Rattle.sml_parse_mod.proofs.Hands.{funs_in, sigs_in, strs_in}
use Rattle.sml_parse_mod.proofs.TopItems.{funs_move, sigs_move}
use Rattle.sml_parse_mod.proofs.top.top_level.Goals as goal

pub returns-then-is_next-clause-gives : goal.returns-then-is_next-clause-gives
returns-then-is_next-clause-gives c =
    rw (sigs_in c.args.scope.now c.args.room c.args.tokens.now c.in_ok-place.place c.in_ok-place.rest.now (sym c.is_next.ensures ∙ c.if-is_next.true) (let le = c.if-room-lt2.false in omega arith) c.in_ok-place.ensures) c.sigs.ensures

pub returns-then-is_next-clause-moves : goal.returns-then-is_next-clause-moves
returns-then-is_next-clause-moves c = sigs_move c.args.room c.in_ok-place.place c.in_ok-place.rest.now c.args.scope.now c.sigs.result c.sigs.ensures

pub returns-then-is_next-2-clause-gives : goal.returns-then-is_next-2-clause-gives
returns-then-is_next-2-clause-gives c =
    rw (funs_in c.args.scope.now c.args.room c.args.tokens.now c.in_ok-place-2.place c.in_ok-place-2.rest.now (sym c.is_next.ensures ∙ c.if-is_next.false) (sym c.is_next-2.ensures ∙ c.if-is_next-2.true) (let le = c.if-room-lt2-2.false in omega arith) c.in_ok-place-2.ensures) c.funs.ensures.gives

pub returns-then-is_next-2-clause-moves : goal.returns-then-is_next-2-clause-moves
returns-then-is_next-2-clause-moves c = funs_move c.args.scope.now c.args.room c.in_ok-place-2.place c.in_ok-place-2.rest.now _ c.funs.result c.funs.ensures.gives c.funs.ensures.keeps

pub returns-clause-gives : goal.returns-clause-gives
returns-clause-gives c = rw (strs_in c.args.scope.now c.args.room c.args.tokens.now (sym c.is_next.ensures ∙ c.if-is_next.false) (sym c.is_next-2.ensures ∙ c.if-is_next-2.false)) c.strs.ensures.gives

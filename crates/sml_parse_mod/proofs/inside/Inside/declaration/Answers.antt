use Rattle.std.proofs.Common.{sym, ◌∙◌, arith}
use Rattle.sml_parse_mod.specs.Levels as levels
use Rattle.sml_parse_mod.proofs.DeclarationHands.{structs_still}
use Rattle.sml_parse_mod.proofs.Hands.{core_in, local_in, structs_in}
use Rattle.sml_parse_mod.proofs.inside.Inside.declaration.Goals as goal

pub returns-then-is_next-clause-gives : goal.returns-then-is_next-clause-gives
returns-then-is_next-clause-gives g c =
    rw (local_in c.args.scope.now c.args.room c.args.tokens.now c.in_ok-place.place c.in_ok-place.rest.now (sym c.is_next.ensures ∙ c.if-is_next.true) (let le = c.if-room-lt1.false in omega arith) c.in_ok-place.ensures) c.local.ensures.gives

pub returns-then-is_next-2-clause-gives : goal.returns-then-is_next-2-clause-gives
returns-then-is_next-2-clause-gives g c =
    rw (structs_in c.args.scope.now c.args.room c.args.tokens.now c.in_ok-place-2.place c.in_ok-place-2.rest.now (sym c.is_next.ensures ∙ c.if-is_next.false) (sym c.is_next-2.ensures ∙ c.if-is_next-2.true) (let le = c.if-room-lt2.false in omega arith) c.in_ok-place-2.ensures) c.structs.ensures.gives

pub returns-then-is_next-2-clause-moves : goal.returns-then-is_next-2-clause-moves
returns-then-is_next-2-clause-moves g c = structs_still c.in_ok-place-2.place c.in_ok-place-2.rest.now (levels.structs c.args.scope.now c.args.room) c.structs.result c.args.scope.now _ c.structs.ensures.gives c.structs.ensures.keeps

pub returns-clause-gives : goal.returns-clause-gives
returns-clause-gives g c = rw (core_in c.args.scope.now c.args.room c.args.tokens.now (sym c.is_next.ensures ∙ c.if-is_next.false) (sym c.is_next-2.ensures ∙ c.if-is_next-2.false)) c.core.ensures.gives

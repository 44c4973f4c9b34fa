use Rattle.std.proofs.Common.{refl, sym, ◌∙◌}
use Rattle.std.proofs.lemmas.Result.{err_from_is_err_and}
use Rattle.sml_grammar_exp.specs.Decs.{Changes}
use Rattle.sml_grammar_mod.specs.Strs.{strbind_of}
use Rattle.sml_parse_mod.specs.Levels as levels
use Rattle.sml_parse_mod.specs.Trees as trees
use Rattle.sml_parse_mod.proofs.Loops.{loop_end, loop_fails, loop_smaller, loop_turn}
use Rattle.sml_parse_mod.proofs.Steps.{binding_less}
use Rattle.sml_parse_mod.proofs.Turns.{row_begins}
use Rattle.sml_parse_mod.proofs.inside.Inside.binds_behind.Goals as goal

pub turns-init : goal.turns-init
turns-init g c = rw c.new.ensures (row_begins (levels.bind c.args.scope.now c.args.room) c.args.room strbind_of (binding_less c.args.scope.now c.args.room) (trees.bind c.args.first) c.args.tokens.now, refl)

pub returns-in_err-turn-clause-gives : goal.returns-in_err-turn-clause-gives
returns-in_err-turn-clause-gives g c =
    let p = err_from_is_err_and c.from_residual.result c.from_residual.ensures.1 in
    rw (p.1, p.2) (loop_fails (λ (k : Changes). levels.bind k c.args.room) c.args.room strbind_of (λ (k : Changes). binding_less k c.args.room) c.args.scope.now c.turns.scope c.turns.invariant.1 c.turns.row (trees.bind c.turns.last) c.turns.rest.now _ c.turns.invariant.0 (sym c.begins_grow.ensures ∙ c.turns-test.true) c.in_err-turn.field-0.0 c.in_err-turn.ensures.gives)

pub turns-smaller : goal.turns-smaller
turns-smaller g c = loop_smaller (λ (k : Changes). levels.bind k c.args.room) c.args.room strbind_of (λ (k : Changes). binding_less k c.args.room) c.args.scope.now c.turns.scope c.turns.invariant.1 c.turns.row (trees.bind c.turns.last) c.turns.rest.now (trees.stepped c.in_ok-turn.turn) c.in_ok-turn.after.now c.in_ok-turn.ensures.gives

pub turns-preserved : goal.turns-preserved
turns-preserved g c = (
  loop_turn (λ (k : Changes). levels.bind k c.args.room) c.args.room strbind_of (λ (k : Changes). binding_less k c.args.room) c.args.scope.now c.turns.scope c.turns.invariant.1 c.turns.row (trees.bind c.turns.last) c.turns.rest.now _ c.turns.invariant.0 (sym c.begins_grow.ensures ∙ c.turns-test.true) c.in_ok-turn.turn c.in_ok-turn.after.now c.in_ok-turn.ensures.gives (c.in_ok-more.more, c.in_ok-more.next) c.in_ok-more.ensures,
  c.in_ok-turn.ensures.keeps ∙ c.turns.invariant.1,
)

pub returns-clause-gives : goal.returns-clause-gives
returns-clause-gives g c =
    loop_end (λ (k : Changes). levels.bind k c.args.room) c.args.room strbind_of (λ (k : Changes). binding_less k c.args.room) c.args.scope.now c.turns.scope c.turns.invariant.1 c.turns.row (trees.bind c.turns.last) c.turns.rest.now _ c.turns.invariant.0 (sym c.begins_grow.ensures ∙ c.turns-test.false) c.in_ok-end.end c.in_ok-end.ensures _ c.in_ok-with_last.ensures

pub returns-clause-keeps : goal.returns-clause-keeps
returns-clause-keeps g c = c.turns.invariant.1

use Rattle.std.proofs.Common.{sym, ap, subst, ◌∙◌, arith}
use Rattle.std.proofs.lemmas.Result.{err_from_is_err_and}
use Rattle.readers.specs.Reader.{steps}
use Rattle.readers.specs.Forms.{at_least}
use Rattle.readers.proofs.StepLoop.{ended}
use Rattle.sml_grammar.specs.Words.{ORELSE}
use Rattle.sml_grammar.specs.Tokens.{is}
use Rattle.readers.specs.Given.{Fails}
use Rattle.sml_grammar_exp.specs.Decs.{Changes}
use Rattle.sml_grammar_exp.specs.Exps.{Ex, is_near, or_of}
use Rattle.sml_parse_exp.proofs.Near.{next, grown_start, grown_no_base, near_turn, near_end, near_deep, near_barred, near_fails}
use Rattle.sml_parse_exp.specs.Levels as levels
use Rattle.sml_parse_exp.specs.Trees as trees
use Rattle.sml_parse_exp.proofs.Steps.{or_suffix_less}
use Rattle.sml_parse_exp.proofs.inside.Inside.or_else.Goals as goal

pub returns-in_err-found-clause-gives : goal.returns-in_err-found-clause-gives
returns-in_err-found-clause-gives g c =
    let p = err_from_is_err_and c.from_residual.result c.from_residual.ensures.1 in
    rw (p.1, p.2) (grown_no_base (is ORELSE) is_near (at_least 2) or_of (levels.or_suffix c.args.scope.now c.args.room) c.args.room (levels.and_also c.args.scope.now c.args.room) c.in_err-found.field-0.0 c.args.tokens.now c.in_err-found.ensures.gives)

pub operands-init : goal.operands-init
operands-init g c = (
  grown_start (is ORELSE) is_near (at_least 2) or_of (levels.or_suffix c.args.scope.now c.args.room) c.args.room (levels.and_also c.args.scope.now c.args.room) c.args.tokens.now c.in_ok-found.rest.now (trees.seen c.in_ok-found.found) c.in_ok-found.ensures.gives,
  c.in_ok-found.ensures.keeps,
)

pub returns-then-not-is_near-clause-gives : goal.returns-then-not-is_near-clause-gives
returns-then-not-is_near-clause-gives g c = near_barred (is ORELSE) is_near (at_least 2) or_of (levels.or_suffix c.args.scope.now c.args.room) c.args.room (or_suffix_less c.args.scope.now c.args.room) (trees.seen c.operands.found) c.operands.rest.now _ c.operands.invariant.0 (sym c.is_next.ensures ∙ c.operands-test.true) (sym c.is_near.ensures ∙ c.if-not-is_near.true)

pub returns-then-room-least-clause-gives : goal.returns-then-room-least-clause-gives
returns-then-room-least-clause-gives g c = near_deep (is ORELSE) is_near (at_least 2) or_of (levels.or_suffix c.args.scope.now c.args.room) c.args.room (or_suffix_less c.args.scope.now c.args.room) (trees.seen c.operands.found) c.operands.rest.now _ c.operands.invariant.0 (sym c.is_next.ensures ∙ c.operands-test.true) (sym c.is_near.ensures ∙ c.if-not-is_near.false) (let e = c.higher-least.ensures in let lt = c.if-room-least.true in omega arith)

pub operands-preserved : goal.operands-preserved
operands-preserved g c = (
  near_turn (is ORELSE) is_near (at_least 2) or_of (levels.or_suffix c.args.scope.now c.args.room) c.args.room (or_suffix_less c.args.scope.now c.args.room) (trees.seen c.operands.found) c.operands.rest.now _ c.operands.invariant.0 (sym c.is_next.ensures ∙ c.operands-test.true) (sym c.is_near.ensures ∙ c.if-not-is_near.false) (trees.seen c.in_ok-right.right, c.in_ok-right.after.now) (let e = c.higher-least.ensures in let le = c.if-room-least.false in omega arith) (ap (λ (cs : Changes). levels.or_suffix cs c.args.room c.operands.rest.now) (sym c.operands.invariant.1) ∙ c.in_ok-right.ensures.gives)
      ∙ ap (λ (x : Ex). ended or_of x (steps (is ORELSE) or_of (next (is ORELSE) is_near (at_least 2) or_of (levels.or_suffix c.args.scope.now c.args.room) c.args.room) x c.in_ok-right.after.now)) (sym c.in_ok-found-2.ensures),
  c.in_ok-right.ensures.keeps ∙ c.operands.invariant.1,
)

pub returns-in_err-right-clause-gives : goal.returns-in_err-right-clause-gives
returns-in_err-right-clause-gives g c =
    let p = err_from_is_err_and c.from_residual-in_err-right.result c.from_residual-in_err-right.ensures.1 in
    rw (p.1, p.2) (near_fails (is ORELSE) is_near (at_least 2) or_of (levels.or_suffix c.args.scope.now c.args.room) c.args.room (or_suffix_less c.args.scope.now c.args.room) (trees.seen c.operands.found) c.operands.rest.now _ c.operands.invariant.0 (sym c.is_next.ensures ∙ c.operands-test.true) (sym c.is_near.ensures ∙ c.if-not-is_near.false) c.in_err-right.field-0.0 (let e = c.higher-least.ensures in let le = c.if-room-least.false in omega arith)
    (subst (λ (cs : Changes). Fails c.in_err-right.field-0.0 (levels.or_suffix cs c.args.room c.operands.rest.now)) c.operands.invariant.1 c.in_err-right.ensures.gives))

pub operands-smaller : goal.operands-smaller
operands-smaller g c = or_suffix_less c.args.scope.now c.args.room c.operands.rest.now (trees.seen c.in_ok-right.right, c.in_ok-right.after.now) (ap (λ (cs : Changes). levels.or_suffix cs c.args.room c.operands.rest.now) (sym c.operands.invariant.1) ∙ c.in_ok-right.ensures.gives)

pub returns-clause-gives : goal.returns-clause-gives
returns-clause-gives g c = near_end (is ORELSE) is_near (at_least 2) or_of (levels.or_suffix c.args.scope.now c.args.room) c.args.room (or_suffix_less c.args.scope.now c.args.room) (trees.seen c.operands.found) c.operands.rest.now _ c.operands.invariant.0 (sym c.is_next.ensures ∙ c.operands-test.false)

pub returns-clause-keeps : goal.returns-clause-keeps
returns-clause-keeps g c = c.operands.invariant.1

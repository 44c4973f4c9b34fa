use Rattle.std.proofs.Common.{sym, ap, subst, ◌∙◌, arith}
use Rattle.std.proofs.lemmas.Result.{err_from_is_err_and}
use Rattle.readers.specs.Reader.{steps}
use Rattle.readers.specs.Forms.{any_tree, at_least}
use Rattle.readers.specs.Infix.{ground}
use Rattle.readers.specs.Given.{Fails}
use Rattle.readers.specs.declared.floor.Floor.{Floor}
use Rattle.readers.proofs.StepLoop.{ended}
use Rattle.sml_grammar.specs.Words.{COLON}
use Rattle.sml_grammar.specs.Tokens.{is}
use Rattle.sml_scan.proofs.Grown.{next, grown_turn, grown_end, grown_deep, grown_fails}
use Rattle.sml_grammar_exp.specs.Exps.{Ex, typed_of}
use Rattle.sml_parse_exp.specs.Levels as levels
use Rattle.sml_parse_exp.specs.Trees as trees
use Rattle.sml_parse_exp.proofs.Near.{grown_start, grown_no_base}
use Rattle.sml_parse_exp.proofs.Steps.{annotation_less}
use Rattle.sml_parse_exp.proofs.inside.Inside.typed.Goals as goal

pub returns-in_err-found-clause-gives : goal.returns-in_err-found-clause-gives
returns-in_err-found-clause-gives g c =
    let p = err_from_is_err_and c.from_residual.result c.from_residual.ensures.1 in
    rw (p.1, p.2) (grown_no_base (is COLON) any_tree (at_least 2) typed_of (levels.annotation c.args.room) c.args.room (levels.row c.args.scope.now c.args.room ground) c.in_err-found.field-0.0 c.args.tokens.now (subst (λ (n : Floor). Fails c.in_err-found.field-0.0 (levels.row c.args.scope.now c.args.room n c.args.tokens.now)) c.ground.ensures c.in_err-found.ensures.gives))

pub types-init : goal.types-init
types-init g c = (
  grown_start (is COLON) any_tree (at_least 2) typed_of (levels.annotation c.args.room) c.args.room (levels.row c.args.scope.now c.args.room ground) c.args.tokens.now c.in_ok-found.rest.now (trees.seen c.in_ok-found.found) (ap (λ (n : Floor). levels.row c.args.scope.now c.args.room n c.args.tokens.now) (sym c.ground.ensures) ∙ c.in_ok-found.ensures.gives),
  c.in_ok-found.ensures.keeps,
)

pub returns-then-room-least-clause-gives : goal.returns-then-room-least-clause-gives
returns-then-room-least-clause-gives g c =
    grown_deep (is COLON) (at_least 2) typed_of (levels.annotation c.args.room) c.args.room (annotation_less c.args.room) (trees.seen c.types.found) c.types.rest.now _ c.types.invariant.0 (sym c.is_next.ensures ∙ c.types-test.true) (let e = c.higher-least.ensures in let lt = c.if-room-least.true in omega arith)

pub types-preserved : goal.types-preserved
types-preserved g c = (
  grown_turn (is COLON) (at_least 2) typed_of (levels.annotation c.args.room) c.args.room (annotation_less c.args.room) (trees.seen c.types.found) c.types.rest.now (c.in_ok-ty.ty, c.in_ok-ty.after.now) _ c.types.invariant.0 (sym c.is_next.ensures ∙ c.types-test.true) (let e = c.higher-least.ensures in let le = c.if-room-least.false in omega arith) c.in_ok-ty.ensures
      ∙ ap (λ (x : Ex). ended typed_of x (steps (is COLON) typed_of (next (is COLON) (at_least 2) typed_of (levels.annotation c.args.room) c.args.room) x c.in_ok-ty.after.now)) (sym c.in_ok-found-2.ensures),
  c.types.invariant.1,
)

pub returns-in_err-ty-clause-gives : goal.returns-in_err-ty-clause-gives
returns-in_err-ty-clause-gives g c =
    let p = err_from_is_err_and c.from_residual-in_err-ty.result c.from_residual-in_err-ty.ensures.1 in
    rw (p.1, p.2) (grown_fails (is COLON) (at_least 2) typed_of (levels.annotation c.args.room) c.args.room (annotation_less c.args.room) c.in_err-ty.field-0.0 (trees.seen c.types.found) c.types.rest.now _ c.types.invariant.0 (sym c.is_next.ensures ∙ c.types-test.true) (let e = c.higher-least.ensures in let le = c.if-room-least.false in omega arith) c.in_err-ty.ensures)

pub types-smaller : goal.types-smaller
types-smaller g c = annotation_less c.args.room c.types.rest.now (c.in_ok-ty.ty, c.in_ok-ty.after.now) c.in_ok-ty.ensures

pub returns-clause-gives : goal.returns-clause-gives
returns-clause-gives g c = grown_end (is COLON) (at_least 2) typed_of (levels.annotation c.args.room) c.args.room (annotation_less c.args.room) (trees.seen c.types.found) c.types.rest.now _ c.types.invariant.0 (sym c.is_next.ensures ∙ c.types-test.false)

pub returns-clause-keeps : goal.returns-clause-keeps
returns-clause-keeps g c = c.types.invariant.1

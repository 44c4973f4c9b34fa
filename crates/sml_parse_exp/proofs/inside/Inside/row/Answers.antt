use Rattle.std.proofs.Common.{◌≡◌, true, sym, ap, subst, ◌∙◌}
use Rattle.std.proofs.lemmas.Result.{err_from_is_err_and}
use Rattle.readers.specs.Reader.{first, head_is}
use Rattle.readers.specs.Given.{Fails}
use Rattle.sml_fix.specs.Fixities.{Settings}
use Rattle.sml_grammar_exp.specs.Exps.{Ex}
use Rattle.sml_grammar_exp.specs.Decs.{Changes, fixed}
use Rattle.sml_parse_exp.specs.Levels as levels
use Rattle.sml_parse_exp.specs.Trees as trees
use Rattle.sml_parse_exp.proofs.RowSteps.{row_rest, row_first, first_fails, row_turn, row_fails, row_less, row_end}
use Rattle.sml_parse_exp.proofs.inside.Inside.row.Goals as goal

pub returns-in_err-found-clause-gives : goal.returns-in_err-found-clause-gives
returns-in_err-found-clause-gives g c =
    let p = err_from_is_err_and c.from_residual.result c.from_residual.ensures.1 in
    rw (p.1, p.2) (first_fails c.args.scope.now c.args.room c.args.floor c.in_err-found.field-0.0 c.args.tokens.now c.in_err-found.ensures.gives)

pub operators-init : goal.operators-init
operators-init g c = (
  row_first c.args.scope.now c.args.room c.args.floor c.args.tokens.now c.in_ok-found.rest.now (trees.seen c.in_ok-found.found) c.in_ok-found.ensures.gives,
  c.in_ok-taken.ensures ∙ ap (λ (f : Settings). head_is (levels.taken f c.args.floor) (first c.in_ok-found.rest.now)) c.fixities.ensures,
  c.in_ok-found.ensures.keeps,
)

pub returns-in_err-more-clause-gives : goal.returns-in_err-more-clause-gives
returns-in_err-more-clause-gives g c =
    let p = err_from_is_err_and c.from_residual-in_err-more.result c.from_residual-in_err-more.ensures.1 in
    let next = ap (λ (cs : Changes). head_is (levels.taken (fixed cs) c.args.floor) (first c.operators.rest.now)) (sym c.operators.invariant.2) ∙ (sym c.operators.invariant.1 ∙ c.operators-test.true) in
    rw (p.1, p.2) (row_fails c.args.scope.now c.args.room c.args.floor _ (trees.seen c.operators.found) c.operators.rest.now c.operators.invariant.0 c.in_err-more.field-0.0 next
    (subst (λ (cs : Changes). Fails c.in_err-more.field-0.0 (levels.operation cs c.args.room c.args.floor (trees.seen c.operators.found) c.operators.rest.now)) c.operators.invariant.2 c.in_err-more.ensures.gives))

pub operators-smaller : goal.operators-smaller
operators-smaller g c =
    row_less c.args.scope.now c.args.room c.args.floor (trees.seen c.operators.found) c.operators.rest.now ((c.in_ok-more.more.0, trees.seen c.in_ok-more.more.1), c.in_ok-more.after.now)
    (ap (λ (cs : Changes). levels.operation cs c.args.room c.args.floor (trees.seen c.operators.found) c.operators.rest.now) (sym c.operators.invariant.2) ∙ c.in_ok-more.ensures.gives)

pub operators-preserved : goal.operators-preserved
operators-preserved g c =
    let next = ap (λ (cs : Changes). head_is (levels.taken (fixed cs) c.args.floor) (first c.operators.rest.now)) (sym c.operators.invariant.2) ∙ (sym c.operators.invariant.1 ∙ c.operators-test.true) in (
      row_turn c.args.scope.now c.args.room c.args.floor _ (trees.seen c.operators.found) c.operators.rest.now c.operators.invariant.0 ((c.in_ok-more.more.0, trees.seen c.in_ok-more.more.1), c.in_ok-more.after.now) next
          (ap (λ (cs : Changes). levels.operation cs c.args.room c.args.floor (trees.seen c.operators.found) c.operators.rest.now) (sym c.operators.invariant.2) ∙ c.in_ok-more.ensures.gives)
          ∙ ap (λ (x : Ex). row_rest c.args.scope.now c.args.room c.args.floor x c.in_ok-more.after.now) (sym c.in_ok-found-2.ensures),
      c.in_ok-taken-2.ensures ∙ ap (λ (f : Settings). head_is (levels.taken f c.args.floor) (first c.in_ok-more.after.now)) c.fixities-in-operators.ensures,
      c.in_ok-more.ensures.keeps ∙ c.operators.invariant.2,
    )

pub returns-clause-gives : goal.returns-clause-gives
returns-clause-gives g c =
    row_end c.args.scope.now c.args.room c.args.floor _ (trees.seen c.operators.found) c.operators.rest.now c.operators.invariant.0
    (ap (λ (cs : Changes). head_is (levels.taken (fixed cs) c.args.floor) (first c.operators.rest.now)) (sym c.operators.invariant.2) ∙ (sym c.operators.invariant.1 ∙ c.operators-test.false))

pub returns-clause-keeps : goal.returns-clause-keeps
returns-clause-keeps g c = c.operators.invariant.2

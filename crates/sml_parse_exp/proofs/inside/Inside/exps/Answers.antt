use Rattle.std.proofs.Common.{false, sym, ap, subst, ◌∙◌}
use Rattle.std.proofs.lemmas.Result.{err_from_is_err_and}
use Rattle.readers.specs.Forms.{height_of}
use Rattle.readers.specs.Given.{Fails}
use Rattle.sml_grammar.specs.Tokens.{is}
use Rattle.sml_grammar_exp.specs.Decs.{Changes}
use Rattle.sml_scan.proofs.Rows.{seps_turn, seps_smaller, seps_end, seps_item_fails}
use Rattle.sml_parse_exp.specs.Levels as levels
use Rattle.sml_parse_exp.specs.Trees as trees
use Rattle.sml_parse_exp.proofs.Steps.{word_exp_less}
use Rattle.sml_parse_exp.proofs.inside.Inside.exps.Goals as goal

pub returns-in_err-other-clause-gives : goal.returns-in_err-other-clause-gives
returns-in_err-other-clause-gives g c =
    let p = err_from_is_err_and c.from_residual-in_err-other.result c.from_residual-in_err-other.ensures.1 in
    rw (p.1, p.2) (seps_item_fails trees.exp_tree height_of (is c.args.separator) (levels.exp c.args.scope.now c.args.room) (word_exp_less c.args.scope.now c.args.room c.args.separator) c.in_err-other.field-0.0 c.items.found c.items.height c.items.rest.now c.in_ok-after.after.now _ c.items.invariant.0
    (sym c.is_next.ensures ∙ c.items-test.true) c.in_ok-after.ensures (subst (λ (cs : Changes). Fails c.in_err-other.field-0.0 (levels.exp cs c.args.room c.in_ok-after.after.now)) c.items.invariant.1 c.in_err-other.ensures.gives))

pub items-smaller : goal.items-smaller
items-smaller g c = seps_smaller trees.exp_tree height_of (is c.args.separator) (levels.exp c.args.scope.now c.args.room) (word_exp_less c.args.scope.now c.args.room c.args.separator) c.items.rest.now c.in_ok-after.after.now (trees.seen c.in_ok-other.other, c.in_ok-other.after.now) c.in_ok-after.ensures (ap (λ (cs : Changes). levels.exp cs c.args.room c.in_ok-after.after.now) (sym c.items.invariant.1) ∙ c.in_ok-other.ensures.gives)

pub items-preserved : goal.items-preserved
items-preserved g c = (
  rw (c.in_ok-push-2.ensures.ok, c.into_inner-in-items.ensures, c.higher-height.ensures) (seps_turn trees.exp_tree height_of (is c.args.separator) (levels.exp c.args.scope.now c.args.room) (word_exp_less c.args.scope.now c.args.room c.args.separator) c.items.found c.items.height c.items.rest.now c.in_ok-after.after.now (trees.seen c.in_ok-other.other, c.in_ok-other.after.now) _ c.items.invariant.0
      (sym c.is_next.ensures ∙ c.items-test.true) c.in_ok-after.ensures (ap (λ (cs : Changes). levels.exp cs c.args.room c.in_ok-after.after.now) (sym c.items.invariant.1) ∙ c.in_ok-other.ensures.gives)),
  c.in_ok-other.ensures.keeps ∙ c.items.invariant.1,
)

pub returns-clause-gives : goal.returns-clause-gives
returns-clause-gives g c = seps_end trees.exp_tree height_of (is c.args.separator) (levels.exp c.args.scope.now c.args.room) (word_exp_less c.args.scope.now c.args.room c.args.separator) c.items.found c.items.height c.items.rest.now _ c.items.invariant.0 (sym c.is_next.ensures ∙ c.items-test.false)

pub returns-clause-keeps : goal.returns-clause-keeps
returns-clause-keeps g c = c.items.invariant.1

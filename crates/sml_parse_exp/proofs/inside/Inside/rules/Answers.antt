use Rattle.std.proofs.Common.{false, sym, ap, subst, refl, ◌∙◌}
use Rattle.std.proofs.lemmas.Result.{err_from_is_err_and}
use Rattle.readers.specs.Given.{Fails}
use Rattle.sml_grammar.specs.Words.{BAR}
use Rattle.sml_grammar_exp.specs.Decs.{Changes}
use Rattle.sml_grammar_exp.specs.ReadLevels.{rule_read}
use Rattle.sml_parse_exp.specs.Trees as trees
use Rattle.sml_parse_exp.proofs.Rules.{rules_first, rules_first_fails, rules_turn, rules_barred, rules_item_fails, rules_end}
use Rattle.sml_parse_exp.proofs.Steps.{word_rule_less}
use Rattle.sml_parse_exp.proofs.inside.Inside.rules.Goals as goal

pub returns-in_err-first-clause-gives : goal.returns-in_err-first-clause-gives
returns-in_err-first-clause-gives g c =
    let p = err_from_is_err_and c.from_residual.result c.from_residual.ensures.1 in
    rw (p.1, p.2) (rules_first_fails (rule_read c.args.room false c.args.scope.now) c.in_err-first.field-0.0 c.args.tokens.now c.in_err-first.ensures.gives)

pub rules-init : goal.rules-init
rules-init g c = (
  rw (c.in_ok-push.ensures.ok, c.new-tree.ensures) (rules_first (rule_read c.args.room false c.args.scope.now) c.args.tokens.now (trees.seen c.in_ok-first.first, c.in_ok-first.rest.now) (trees.ends_of c.in_ok-first.first.ends) c.in_ok-first.ensures.gives refl),
  c.in_ok-first.ensures.keeps,
)

pub returns-then-takes_bar-clause-gives : goal.returns-then-takes_bar-clause-gives
returns-then-takes_bar-clause-gives g c = rules_barred (rule_read c.args.room false c.args.scope.now) (word_rule_less c.args.scope.now c.args.room BAR) c.rules.tree (trees.ends_of c.rules.ends) c.rules.height c.rules.rest.now _ c.rules.invariant.0 (sym c.is_next.ensures ∙ c.rules-test.true) (sym c.takes_bar.ensures ∙ c.if-takes_bar.true)

pub returns-in_err-other-clause-gives : goal.returns-in_err-other-clause-gives
returns-in_err-other-clause-gives g c =
    let p = err_from_is_err_and c.from_residual-in_err-other.result c.from_residual-in_err-other.ensures.1 in
    rw (p.1, p.2) (rules_item_fails (rule_read c.args.room false c.args.scope.now) (word_rule_less c.args.scope.now c.args.room BAR) c.rules.tree (trees.ends_of c.rules.ends) c.rules.height c.rules.rest.now _ c.rules.invariant.0 (sym c.is_next.ensures ∙ c.rules-test.true) c.in_err-other.field-0.0 c.in_ok-after.after.now (sym c.takes_bar.ensures ∙ c.if-takes_bar.false) c.in_ok-after.ensures
    (subst (λ (cs : Changes). Fails c.in_err-other.field-0.0 (rule_read c.args.room false cs c.in_ok-after.after.now)) c.rules.invariant.1 c.in_err-other.ensures.gives))

pub rules-smaller : goal.rules-smaller
rules-smaller g c = word_rule_less c.args.scope.now c.args.room BAR c.rules.rest.now (trees.seen c.in_ok-other.other, c.in_ok-other.after.now) (rw c.in_ok-after.ensures (ap (λ (cs : Changes). rule_read c.args.room false cs c.in_ok-after.after.now) (sym c.rules.invariant.1) ∙ c.in_ok-other.ensures.gives))

pub rules-preserved : goal.rules-preserved
rules-preserved g c = (
  rw (c.in_ok-push-2.ensures.ok, c.higher-height.ensures) (rules_turn (rule_read c.args.room false c.args.scope.now) (word_rule_less c.args.scope.now c.args.room BAR) c.rules.tree (trees.ends_of c.rules.ends) c.rules.height c.rules.rest.now _ c.rules.invariant.0 (sym c.is_next.ensures ∙ c.rules-test.true) c.in_ok-after.after.now (trees.seen c.in_ok-other.other, c.in_ok-other.after.now) (trees.ends_of c.in_ok-other.other.ends)
      (sym c.takes_bar.ensures ∙ c.if-takes_bar.false) c.in_ok-after.ensures (ap (λ (cs : Changes). rule_read c.args.room false cs c.in_ok-after.after.now) (sym c.rules.invariant.1) ∙ c.in_ok-other.ensures.gives) refl),
  c.in_ok-other.ensures.keeps ∙ c.rules.invariant.1,
)

pub returns-clause-gives : goal.returns-clause-gives
returns-clause-gives g c = rules_end (rule_read c.args.room false c.args.scope.now) (word_rule_less c.args.scope.now c.args.room BAR) c.rules.tree (trees.ends_of c.rules.ends) c.rules.height c.rules.rest.now _ c.rules.invariant.0 (sym c.is_next.ensures ∙ c.rules-test.false)

pub returns-clause-keeps : goal.returns-clause-keeps
returns-clause-keeps g c = c.rules.invariant.1

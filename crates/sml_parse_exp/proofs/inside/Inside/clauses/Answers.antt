use Rattle.std.proofs.Common.{false, not, sym, ap, subst, refl, ◌∙◌}
use Rattle.std.proofs.lemmas.Result.{err_from_is_err_and}
use Rattle.readers.specs.Forms.{height_of}
use Rattle.readers.specs.Given.{Fails}
use Rattle.sml_grammar.specs.Words.{BAR}
use Rattle.sml_grammar.specs.Tokens.{is}
use Rattle.sml_grammar_exp.specs.Exps.{takes_bar}
use Rattle.sml_grammar_exp.specs.Decs.{Changes, clause_bar}
use Rattle.sml_grammar_exp.specs.ReadLevels.{clause_read}
use Rattle.sml_parse_pat.proofs.Ready.{ready_first, ready_first_fails, ready_turn, ready_barred, ready_item_fails, ready_smaller, ready_end}
use Rattle.sml_parse_exp.specs.Trees as trees
use Rattle.sml_parse_exp.proofs.Steps.{word_clause_less}
use Rattle.sml_parse_exp.proofs.inside.Inside.clauses.Goals as goal

pub returns-in_err-first-clause-gives : goal.returns-in_err-first-clause-gives
returns-in_err-first-clause-gives g c =
    let p = err_from_is_err_and c.from_residual.result c.from_residual.ensures.1 in
    rw (p.1, p.2) (ready_first_fails trees.clause_tree height_of (is BAR) clause_bar (clause_read c.args.room false c.args.scope.now) c.in_err-first.field-0.0 c.args.tokens.now c.in_err-first.ensures.gives)

pub clauses-init : goal.clauses-init
clauses-init g c = (
  rw (c.in_ok-push.ensures.ok, c.new-found.ensures) (ready_first trees.clause_tree height_of (is BAR) clause_bar (clause_read c.args.room false c.args.scope.now) c.args.tokens.now (trees.seen c.in_ok-first.first, c.in_ok-first.rest.now) (not (takes_bar (trees.ends_of c.in_ok-first.first.ends).reach)) c.in_ok-first.ensures.gives refl),
  c.in_ok-first.ensures.keeps,
)

pub returns-then-takes_bar-clause-gives : goal.returns-then-takes_bar-clause-gives
returns-then-takes_bar-clause-gives g c = ready_barred trees.clause_tree height_of (is BAR) clause_bar (clause_read c.args.room false c.args.scope.now) (word_clause_less c.args.scope.now c.args.room BAR) c.clauses.found c.clauses.height (not (takes_bar (trees.ends_of c.clauses.ends).reach)) c.clauses.rest.now _ c.clauses.invariant.0 (sym c.is_next.ensures ∙ c.clauses-test.true) (ap not (sym c.takes_bar.ensures ∙ c.if-takes_bar.true))

pub returns-in_err-other-clause-gives : goal.returns-in_err-other-clause-gives
returns-in_err-other-clause-gives g c =
    let p = err_from_is_err_and c.from_residual-in_err-other.result c.from_residual-in_err-other.ensures.1 in
    rw (p.1, p.2) (ready_item_fails trees.clause_tree height_of (is BAR) clause_bar (clause_read c.args.room false c.args.scope.now) (word_clause_less c.args.scope.now c.args.room BAR) c.clauses.found c.clauses.height (not (takes_bar (trees.ends_of c.clauses.ends).reach)) c.clauses.rest.now _ c.clauses.invariant.0 (sym c.is_next.ensures ∙ c.clauses-test.true) c.in_err-other.field-0.0 c.in_ok-after.after.now (ap not (sym c.takes_bar.ensures ∙ c.if-takes_bar.false)) c.in_ok-after.ensures
    (subst (λ (cs : Changes). Fails c.in_err-other.field-0.0 (clause_read c.args.room false cs c.in_ok-after.after.now)) c.clauses.invariant.1 c.in_err-other.ensures.gives))

pub clauses-smaller : goal.clauses-smaller
clauses-smaller g c = ready_smaller trees.clause_tree height_of (is BAR) clause_bar (clause_read c.args.room false c.args.scope.now) (word_clause_less c.args.scope.now c.args.room BAR) c.clauses.rest.now c.in_ok-after.after.now (trees.seen c.in_ok-other.other, c.in_ok-other.after.now) c.in_ok-after.ensures (ap (λ (cs : Changes). clause_read c.args.room false cs c.in_ok-after.after.now) (sym c.clauses.invariant.1) ∙ c.in_ok-other.ensures.gives)

pub clauses-preserved : goal.clauses-preserved
clauses-preserved g c = (
  rw (c.in_ok-push-2.ensures.ok, c.higher-height.ensures) (ready_turn trees.clause_tree height_of (is BAR) clause_bar (clause_read c.args.room false c.args.scope.now) (word_clause_less c.args.scope.now c.args.room BAR) c.clauses.found c.clauses.height (not (takes_bar (trees.ends_of c.clauses.ends).reach)) c.clauses.rest.now _ c.clauses.invariant.0 (sym c.is_next.ensures ∙ c.clauses-test.true) c.in_ok-after.after.now (trees.seen c.in_ok-other.other, c.in_ok-other.after.now) (not (takes_bar (trees.ends_of c.in_ok-other.other.ends).reach))
      (ap not (sym c.takes_bar.ensures ∙ c.if-takes_bar.false)) c.in_ok-after.ensures (ap (λ (cs : Changes). clause_read c.args.room false cs c.in_ok-after.after.now) (sym c.clauses.invariant.1) ∙ c.in_ok-other.ensures.gives) refl),
  c.in_ok-other.ensures.keeps ∙ c.clauses.invariant.1,
)

pub returns-clause-gives : goal.returns-clause-gives
returns-clause-gives g c = ready_end trees.clause_tree height_of (is BAR) clause_bar (clause_read c.args.room false c.args.scope.now) (word_clause_less c.args.scope.now c.args.room BAR) c.clauses.found c.clauses.height (not (takes_bar (trees.ends_of c.clauses.ends).reach)) c.clauses.rest.now _ c.clauses.invariant.0 (sym c.is_next.ensures ∙ c.clauses-test.false)

pub returns-clause-keeps : goal.returns-clause-keeps
returns-clause-keeps g c = c.clauses.invariant.1

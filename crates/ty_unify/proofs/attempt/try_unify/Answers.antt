use Rattle.std.proofs.Common.{ℕ, List, Bool, ap, ◌∙◌, subst}
use Rattle.std.specs.Bool.{OnTrue}
use Rattle.ty_unify.specs.Stores.{LeadsToVariable}
use Rattle.ty_unify.proofs.Variables.{joined_variables}
use Rattle.ty_unify.specs.declared.cell.Cell.{Cell}
use Rattle.ty_unify.specs.Cells.{undone}
use Rattle.ty_unify.specs.Steps.{Solved}
use Rattle.ty_unify.specs.Walking.{CoverEnds}
use Rattle.ty_unify.proofs.Turns.{outcome_true}
use Rattle.ty_unify.proofs.Ranks.{tried}
use Rattle.ty_unify.proofs.attempt.try_unify.Goals as goal

pub returns-clause-end : goal.returns-clause-end
returns-clause-end c =
    let s = outcome_true _ _ _ _ (Solved c.args.labels.now c.args.cells.now.items c.solve.new.cells.items c.args.a c.args.b) c.if-not-branch.false c.in_ok-solve.ensures.solved in
    let u = c.in_ok-solve.ensures.undone ∙ ap (λ (l : List (ℕ × Cell)). undone l c.args.cells.now.items) c.requires.log in
    let e = subst (λ (l : List Cell). CoverEnds c.in_ok-ranked.ranked l c.deref-3.result.now) c.deref-2.ensures.value c.in_ok-ranked.ensures.end in
    let f = subst (λ (l : List (ℕ × Cell)). CoverEnds c.in_ok-ranked.ranked c.solve.new.cells.items l) c.deref-3.ensures.value e in
    tried c.in_ok-ranked.ranked c.args.labels.now c.args.cells.now.items c.solve.new.cells.items c.solve.new.log.items c.args.a c.args.b c.requires.sound s u f

pub returns-then-variables-clause-end : goal.returns-then-variables-clause-end
returns-then-variables-clause-end c =
    let s = outcome_true _ _ _ _ (Solved c.args.labels.now c.args.cells.now.items c.solve.new.cells.items c.args.a c.args.b) c.if-not-branch.false c.in_ok-solve.ensures.solved in
    let v = subst (λ (b : Bool). OnTrue b (LeadsToVariable c.deref.result.now c.args.a × LeadsToVariable c.deref.result.now c.args.b)) c.if-variables.true c.are_variables-variables.ensures in
    let w = subst (λ (l : List Cell). LeadsToVariable l c.args.a × LeadsToVariable l c.args.b) c.deref.ensures.value v in
    joined_variables c.args.labels.now c.args.cells.now.items c.solve.new.cells.items c.args.a c.args.b c.requires.sound s w.0 w.1

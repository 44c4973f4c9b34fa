use Rattle.std.proofs.Common.{◌<◌, List, ◌++◌, length, true, sym, ap, ◌∙◌, subst}
use Rattle.std.specs.Prelude.{slice_set}
use Rattle.ty_unify.specs.declared.cell.Cell.{Cell}
use Rattle.ty_unify.specs.declared.join.Task.TheVariants.{Bound}
use Rattle.ty_unify.specs.Trees.{Admits}
use Rattle.ty_unify.specs.Cells.{cell_at, IsRoot}
use Rattle.ty_unify.specs.Steps.{NeverAdmits, bounds_of}
use Rattle.ty_unify.proofs.Sets.{read_is}
use Rattle.ty_unify.proofs.Joined.{stepped_at}
use Rattle.ty_unify.proofs.Bound.{bounded, bounded_before, never_admits}
use Rattle.ty_unify.proofs.Turns.{stepped_same, bound_same, ask_true, ask_false, shaped_of}
use Rattle.ty_unify.proofs.join.bind.Goals as goal

pub returns-then-cell-clause-step : goal.returns-then-cell-clause-step
returns-then-cell-clause-step c =
    let r = c.requires in
    let cells = c.args.cells.now.items in
    let at = c.root-at.result in
    let lt : at < length cells = subst (λ (l : List Cell). at < length l) c.deref.ensures.value c.root-at.ensures.within in
    let root : IsRoot (cell_at cells at).shape = subst (λ (l : List Cell). IsRoot (cell_at l at).shape) c.deref.ensures.value c.root-at.ensures.root in
    let here = read_is cells at c.index-cell.result.now lt c.index-cell.ensures in
    stepped_same c.args.labels.now cells cells c.args.work.now.items c.args.work.now.items (Bound at) (Bound c.args.node)
    (bound_same c.args.labels.now cells c.deref.result.now c.args.node at c.deref.ensures.value c.root-at.ensures.same)
    (bounded_before c.args.labels.now cells c.args.work.now.items at r.order r.labelled root (ap (λ (x : Cell). x.equal) here ∙ c.if-cell.true) r.tasks)

pub returns-then-not-branch-clause-step : goal.returns-then-not-branch-clause-step
returns-then-not-branch-clause-step c = λ θ s h.
    let cells = c.args.cells.now.items in
    let at = c.root-at.result in
    let lt : at < length cells = subst (λ (l : List Cell). at < length l) c.deref.ensures.value c.root-at.ensures.within in
    let here = read_is cells at c.index-cell.result.now lt c.index-cell.ensures in
    let never = ask_false _ _ _ _ c.if-not-branch.true c.in_ok-ask_parts.ensures in
    let same = bound_same c.args.labels.now cells c.deref.result.now c.args.node at c.deref.ensures.value c.root-at.ensures.same Admits θ (shaped_of c.args.labels.now cells θ s) in
    never_admits c.args.labels.now (cell_at cells at).shape at θ (subst (λ (x : Cell). NeverAdmits x.shape) (sym here) never) (s.holds at).0 (same.1 h)

pub returns-clause-step : goal.returns-clause-step
returns-clause-step c =
    let r = c.requires in
    let labels = c.args.labels.now in
    let cells = c.args.cells.now.items in
    let before = c.args.work.now.items in
    let at = c.root-at.result in
    let lt : at < length cells = subst (λ (l : List Cell). at < length l) c.deref.ensures.value c.root-at.ensures.within in
    let root : IsRoot (cell_at cells at).shape = subst (λ (l : List Cell). IsRoot (cell_at l at).shape) c.deref.ensures.value c.root-at.ensures.root in
    let here = read_is cells at c.index-cell.result.now lt c.index-cell.ensures in
    let asks = ask_true _ _ _ _ c.if-not-branch.false c.in_ok-ask_parts.ensures in
    let cell = λ (x : Cell). let y : Cell = record { shape = x.shape; equal = true } in y in
    stepped_at labels cells _ _ before _ _ (Bound c.args.node)
    (c.in_ok-write.ensures.ok ∙ ap (λ (x : Cell). slice_set cells at (cell x)) (sym here))
    (asks.1 ∙ ap (λ (x : Cell). before ++ bounds_of x.shape) (sym here))
    (stepped_same labels cells _ before _ (Bound at) (Bound c.args.node)
    (bound_same labels cells c.deref.result.now c.args.node at c.deref.ensures.value c.root-at.ensures.same)
    (bounded labels cells before at r.order r.labelled lt root (ap (λ (x : Cell). x.equal) here ∙ c.if-cell.false) r.tasks
    (λ n. asks.0 (subst (λ (x : Cell). NeverAdmits x.shape) here n))))

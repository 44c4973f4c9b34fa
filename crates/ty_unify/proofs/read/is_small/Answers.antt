use Rattle.std.proofs.Common.{ℕ, ◌<◌, List, length, sym, subst}
use Rattle.ty_unify.specs.declared.cell.Shape.{Shape}
use Rattle.ty_unify.specs.Cells.{ShapeOrdered, sort_at}
use Rattle.ty_unify.specs.Walking.{Each}
use Rattle.ty_unify.proofs.Walks.{all_front, all_more}
use Rattle.ty_unify.proofs.read.is_small.Goals as goal

pub loop-node-preserved-in-Continue-branch-3 : goal.loop-node-preserved-in-Continue-branch-3
loop-node-preserved-in-Continue-branch-3 c =
    let cells = c.args.cells.now in
    let In : ℕ → Type 0 = λ i. i < length cells in
    let o = subst (λ (s : Shape). ShapeOrdered (length cells) (sort_at cells) s c.root.result) c.in-Pair.is (c.requires.order.ordered c.root.result) in
    let front = (all_front In c.pop.new.self.items c.in-Some.node (subst (λ (l : List ℕ). Each In l) c.in-Some.ensures.items c.loop-node.invariant)).0 in
    let one = subst (λ (l : List ℕ). Each In l) (sym c.in_ok-push-2.ensures.items) (all_more In c.pop.new.self.items c.in-Pair.second front o.1) in
    subst (λ (l : List ℕ). Each In l) (sym c.in_ok-push-3.ensures.items) (all_more In c.push-in-Pair.new.self.items c.in-Pair.first one o.0)

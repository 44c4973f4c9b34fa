use Rattle.std.proofs.Common.{ℕ, ◌≤◌, List, length, sym, ap, ◌∙◌, arith}
use Rattle.std.proofs.lemmas.List.{set_past}
use Rattle.ty_unify.specs.declared.cell.Cell.{Cell}
use Rattle.ty_unify.specs.Cells.{undone}
use Rattle.ty_unify.proofs.Undo.{undone_put}
use Rattle.ty_unify.proofs.attempt.undo.Goals as goal

pub loop-node-preserved-then-node-len : goal.loop-node-preserved-then-node-len
loop-node-preserved-then-node-len c =
    sym (undone_put c.pop.new.self.items (c.in-Some.node, c.in-Some.cell) c.loop-node.cells.items)
    ∙ ap (λ (l : List (ℕ × Cell)). undone l c.loop-node.cells.items) (sym c.in-Some.ensures.items) ∙ c.loop-node.invariant

pub loop-node-preserved : goal.loop-node-preserved
loop-node-preserved c =
    let k = c.loop-node.cells.ok.0 in
    let le : length c.loop-node.cells.items ≤ c.in-Some.node = omega arith in
    ap (λ (l : List Cell). undone c.pop.new.self.items l) (sym (set_past c.loop-node.cells.items c.in-Some.node c.in-Some.cell le))
    ∙ sym (undone_put c.pop.new.self.items (c.in-Some.node, c.in-Some.cell) c.loop-node.cells.items)
    ∙ ap (λ (l : List (ℕ × Cell)). undone l c.loop-node.cells.items) (sym c.in-Some.ensures.items) ∙ c.loop-node.invariant

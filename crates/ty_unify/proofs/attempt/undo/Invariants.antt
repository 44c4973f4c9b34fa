use Rattle.std.proofs.Common.{◌≡◌, length}
use Rattle.ty_unify.specs.Cells.{undone}
use Rattle.ty_unify.proofs.attempt.undo.Given as goal

abbrev pub invariant-loop-node : goal.invariant-loop-node
invariant-loop-node l = undone l.log.items l.cells.items ≡ undone l.fn.log.items l.initial.cells.items

abbrev pub decreases-loop-node : goal.decreases-loop-node
decreases-loop-node l = length l.log.items

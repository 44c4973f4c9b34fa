use Rattle.std.proofs.Common.{◌≡◌, ◌+◌, length}
use Rattle.ty_unify.specs.Cells.{undone}
use Rattle.ty_unify.specs.Steps.{Running, weight}
use Rattle.ty_unify.proofs.solve.solve.Given as goal

abbrev pub invariant-loop-task : goal.invariant-loop-task
invariant-loop-task l = record {
  running : Running l.labels l.initial.cells.items l.cells.items l.work.items l.fn.a l.fn.b;
  undone : undone l.log.items l.cells.items ≡ undone l.initial.log.items l.initial.cells.items;
}

abbrev pub decreases-loop-task : goal.decreases-loop-task
decreases-loop-task l = weight l.cells.items + length l.work.items

use Rattle.std.proofs.Common.{◌≡◌, ◌++◌, length}
use Rattle.match_use.specs.Lines.{matrices_of}
use Rattle.match_use.specs.Progress.{pending}
use Rattle.match_use.proofs.walk.push_all.Given as goal

abbrev pub invariant-loop-matrix : goal.invariant-loop-matrix
invariant-loop-matrix l = matrices_of l.left.items ++ pending l.todo.items ≡ matrices_of l.fn.matrices.items ++ pending l.fn.todo.items

abbrev pub decreases-loop-matrix : goal.decreases-loop-matrix
decreases-loop-matrix l = length l.left.items

use Rattle.std.proofs.Common.{◌<◌, length}
use Rattle.ty_unify.specs.Walking.{Each}
use Rattle.ty_unify.proofs.read.is_small.Given as goal

abbrev pub invariant-loop-node : goal.invariant-loop-node
invariant-loop-node l = Each (λ i. i < length l.cells) l.work.items

abbrev pub decreases-loop-node : goal.decreases-loop-node
decreases-loop-node l = l.left

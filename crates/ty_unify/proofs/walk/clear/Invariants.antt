use Rattle.std.proofs.Common.{length}
use Rattle.ty_unify.specs.Walking.{Tracked}
use Rattle.ty_unify.proofs.walk.clear.Given as goal

abbrev pub invariant-loop-node : goal.invariant-loop-node
invariant-loop-node l = Tracked (length l.initial.marks.items) l.marks.items l.seen.items

abbrev pub decreases-loop-node : goal.decreases-loop-node
decreases-loop-node l = length l.seen.items

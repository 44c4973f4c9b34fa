use Rattle.std.proofs.Common.{◌-◌, length}
use Rattle.ty_unify.specs.Walking.{Rested}
use Rattle.ty_unify.proofs.walk.grow.Given as goal

abbrev pub invariant-loop-marks : goal.invariant-loop-marks
invariant-loop-marks l = Rested l.count l.marks.items

abbrev pub decreases-loop-marks : goal.decreases-loop-marks
decreases-loop-marks l = l.count - length l.marks.items

use Rattle.std.proofs.Common.{◌≡◌, ◌-◌, false, length}
use Rattle.readers.specs.Reader.{steps}
use Rattle.readers.proofs.StepLoop.{ended}
use Rattle.sml_fix.specs.Reading.{group_read, taken, joined, suffix}
use Rattle.sml_fix.proofs.grouping.+grouped.Given as goal

abbrev pub decreases-grouped : goal.decreases-grouped
decreases-grouped l = l.room

abbrev pub invariant-operators : goal.invariant-operators
invariant-operators l = group_read l.room false l.floor l.cells ≡ ended joined l.found (steps (taken l.floor) joined (suffix (l.room - 1) l.floor) l.found l.rest)

abbrev pub decreases-operators : goal.decreases-operators
decreases-operators l = length l.rest

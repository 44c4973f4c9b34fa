use Rattle.std.proofs.Common.{◌≡◌, ◌≤◌, ◌+◌, ◌-◌, ◌*◌, length}
use Rattle.match_use.specs.Lines.{lines_of}
use Rattle.match_use.specs.Progress.{pending, Progress}
use Rattle.match_use.specs.declared.walk.TheConstants.{SPLITS}
use Rattle.match_use.proofs.walk.walked.Given as goal

abbrev pub invariant-loop-rows : goal.invariant-loop-rows
invariant-loop-rows l = record {
  progress : Progress (lines_of l.fn.first.items) (pending l.todo.items) l.tally.reached.items l.tally.exhaustive l.tally.splits;
  within : l.tally.splits ≤ SPLITS;
  rules : length l.tally.reached.items ≡ l.rules;
}

abbrev pub decreases-loop-rows : goal.decreases-loop-rows
decreases-loop-rows l = 2 * (SPLITS - l.tally.splits) + length (pending l.todo.items)

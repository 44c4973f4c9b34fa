use Rattle.std.proofs.Common.{◌≡◌, drop}
use Rattle.match_use.specs.Lines.{lines_of, plain}
use Rattle.match_use.specs.Steps.{first_step}
use Rattle.match_use.proofs.reduce.next_step.Given as goal

abbrev pub invariant-loop-row : goal.invariant-loop-row
invariant-loop-row l = first_step (plain (lines_of (drop l.row-index l.rows))) ≡ first_step (plain (lines_of l.rows))

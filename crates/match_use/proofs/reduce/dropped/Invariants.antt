use Rattle.std.proofs.Common.{◌≡◌, ◌++◌, map, drop}
use Rattle.match_use.specs.Lines.{lines_of}
use Rattle.match_use.specs.Steps.{dropped_line}
use Rattle.match_use.proofs.reduce.dropped.Given as goal

abbrev pub invariant-loop-row : goal.invariant-loop-row
invariant-loop-row l = lines_of l.done.items ++ map dropped_line (lines_of (drop l.row-index l.rows)) ≡ map dropped_line (lines_of l.rows)

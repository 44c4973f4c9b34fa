use Rattle.std.proofs.Common.{◌≡◌, ◌++◌, map, drop}
use Rattle.match_use.specs.Lines.{lines_of}
use Rattle.match_use.specs.Steps.{cell_line}
use Rattle.match_use.proofs.reduce.cells_opened.Given as goal

abbrev pub invariant-loop-row : goal.invariant-loop-row
invariant-loop-row l = lines_of l.done.items ++ map cell_line (lines_of (drop l.row-index l.rows)) ≡ map cell_line (lines_of l.rows)

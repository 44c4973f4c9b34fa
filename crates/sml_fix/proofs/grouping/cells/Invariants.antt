use Rattle.std.proofs.Common.{◌≡◌, ◌++◌, drop}
use Rattle.sml_fix.specs.Fixities.{settings}
use Rattle.sml_fix.specs.Resolution.{cells, cells_from}
use Rattle.sml_fix.proofs.grouping.cells.Given as goal

abbrev pub invariant-loop-part : goal.invariant-loop-part
invariant-loop-part l = l.cells.items ++ cells_from (settings l.fix) l.number (drop l.part-index l.row) ≡ cells (settings l.fix) l.row

use Rattle.match_use.specs.Lines.{lines_of, plain}
use Rattle.match_use.specs.Reduced.{IsReduced}
use Rattle.match_use.specs.Weights.{weight}
use Rattle.match_use.proofs.reduce.reduced.Given as goal

abbrev pub invariant-loop-rows : goal.invariant-loop-rows
invariant-loop-rows l = IsReduced (lines_of l.fn.rows.items) (lines_of l.rows.items)

abbrev pub decreases-loop-rows : goal.decreases-loop-rows
decreases-loop-rows l = weight (plain (lines_of l.rows.items))

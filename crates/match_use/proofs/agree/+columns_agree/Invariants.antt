use Rattle.match_use.specs.Columns.{column_of}
use Rattle.match_use.specs.Weights.{nodes}
use Rattle.match_use.proofs.agree.+columns_agree.Given as goal

abbrev pub decreases-columns_agree : goal.decreases-columns_agree
decreases-columns_agree l = nodes (column_of l.a)

use Rattle.match_use.specs.Columns.{column_of}
use Rattle.match_use.specs.Weights.{nodes}
use Rattle.match_use.proofs.constructor.+add_constructors.Given as goal

abbrev pub decreases-add_constructors : goal.decreases-add_constructors
decreases-add_constructors l = nodes (column_of l.column)

use Rattle.runs.proofs.Grow.{rows_go_on}
use Rattle.runs.proofs.laws.rows_go_on.Goals as goal

pub returns : goal.returns
returns c = rows_go_on

use Rattle.runs.proofs.Paths.{value_more}
use Rattle.runs.proofs.one_more.one_value_more.Goals as goal

pub returns : goal.returns
returns c = value_more

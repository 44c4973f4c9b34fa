use Rattle.runs.proofs.Ends.{raised_agrees}
use Rattle.runs.proofs.laws.raises_in_each_order.Goals as goal

pub returns : goal.returns
returns c = raised_agrees

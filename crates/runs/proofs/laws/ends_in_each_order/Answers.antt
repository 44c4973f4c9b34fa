use Rattle.runs.proofs.Ends.{done_agrees}
use Rattle.runs.proofs.laws.ends_in_each_order.Goals as goal

pub returns : goal.returns
returns c = done_agrees

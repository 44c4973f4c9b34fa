use Rattle.runs.proofs.Both.{tree_agrees}
use Rattle.runs.proofs.laws.any_order.Goals as goal

pub returns : goal.returns
returns c = tree_agrees

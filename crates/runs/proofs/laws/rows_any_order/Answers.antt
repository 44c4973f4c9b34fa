use Rattle.runs.proofs.Both.{rows_agree}
use Rattle.runs.proofs.laws.rows_any_order.Goals as goal

pub returns : goal.returns
returns c = rows_agree

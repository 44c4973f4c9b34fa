use Rattle.runs.proofs.Closed.{mean_close}
use Rattle.runs.proofs.laws.put_in_or_read.Goals as goal

pub returns : goal.returns
returns c = mean_close

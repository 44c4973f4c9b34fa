use Rattle.runs.proofs.Grow.{mean_goes_on}
use Rattle.runs.proofs.laws.goes_on.Goals as goal

pub returns : goal.returns
returns c = mean_goes_on

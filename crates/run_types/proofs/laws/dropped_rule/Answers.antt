use Rattle.run_types.proofs.Dropped.{mean_drop}
use Rattle.run_types.proofs.laws.dropped_rule.Goals as goal

pub returns : goal.returns
returns c = mean_drop

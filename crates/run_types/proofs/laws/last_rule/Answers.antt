use Rattle.run_types.proofs.Dropped.{add_last}
use Rattle.run_types.proofs.laws.last_rule.Goals as goal

pub returns : goal.returns
returns c = add_last

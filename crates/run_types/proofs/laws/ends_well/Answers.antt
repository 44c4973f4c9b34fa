use Rattle.run_types.proofs.Sound.{tree_ok}
use Rattle.run_types.proofs.laws.ends_well.Goals as goal

pub returns : goal.returns
returns c = tree_ok

use Rattle.run_types.proofs.Basics.{basic_holds}
use Rattle.run_types.proofs.laws.start_holds.Goals as goal

pub returns : goal.returns
returns c = basic_holds

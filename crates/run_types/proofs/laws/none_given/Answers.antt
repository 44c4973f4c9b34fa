use Rattle.run_types.proofs.Basics.{no_givens_ok}
use Rattle.run_types.proofs.laws.none_given.Goals as goal

pub returns : goal.returns
returns c = no_givens_ok

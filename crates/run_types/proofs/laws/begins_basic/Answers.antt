use Rattle.run_types.proofs.Basics.{basic_is_basic}
use Rattle.run_types.proofs.laws.begins_basic.Goals as goal

pub returns : goal.returns
returns c = basic_is_basic

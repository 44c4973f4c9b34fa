use Rattle.run_types.proofs.Instances.{choices}
use Rattle.run_types.proofs.laws.each_choice.Goals as goal

pub returns : goal.returns
returns c = choices

use Rattle.run_types.proofs.Choice.{choice_has}
use Rattle.run_types.proofs.laws.choice_is_typed.Goals as goal

pub returns : goal.returns
returns c = choice_has

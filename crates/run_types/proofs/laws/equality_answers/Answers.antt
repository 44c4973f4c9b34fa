use Rattle.run_types.proofs.Equal.{equal_answers}
use Rattle.run_types.proofs.laws.equality_answers.Goals as goal

pub returns : goal.returns
returns c = equal_answers

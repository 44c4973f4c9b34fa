use Rattle.run_types.proofs.TypedTexts.{twice_typed}
use Rattle.run_types.proofs.laws.identity_is_typed.Goals as goal

pub returns : goal.returns
returns c = twice_typed

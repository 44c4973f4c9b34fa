use Rattle.run_types.proofs.TypedTexts.{hello_typed}
use Rattle.run_types.proofs.laws.hello_is_typed.Goals as goal

pub returns : goal.returns
returns c = hello_typed

use Rattle.run_types.proofs.TypedTexts.{bad_goes_wrong}
use Rattle.run_types.proofs.laws.cell_goes_wrong.Goals as goal

pub returns : goal.returns
returns c = bad_goes_wrong

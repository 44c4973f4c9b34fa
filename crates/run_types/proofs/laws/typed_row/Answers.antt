use Rattle.run_types.proofs.Rowed.{typed_agree}
use Rattle.run_types.proofs.laws.typed_row.Goals as goal

pub returns : goal.returns
returns c = typed_agree

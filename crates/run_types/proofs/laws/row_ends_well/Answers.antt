use Rattle.run_types.proofs.Rowed.{row_ok}
use Rattle.run_types.proofs.laws.row_ends_well.Goals as goal

pub returns : goal.returns
returns c = row_ok

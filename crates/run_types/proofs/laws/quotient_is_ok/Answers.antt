use Rattle.run_types.proofs.Quotient.{quotient_ok}
use Rattle.run_types.proofs.laws.quotient_is_ok.Goals as goal

pub returns : goal.returns
returns c = quotient_ok

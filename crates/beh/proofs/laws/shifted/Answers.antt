use Rattle.beh.proofs.Matching.{match_shifted}
use Rattle.beh.proofs.laws.shifted.Goals as goal

pub returns : goal.returns
returns c = match_shifted

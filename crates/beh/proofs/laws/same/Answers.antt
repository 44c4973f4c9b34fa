use Rattle.beh.proofs.Matching.{match_same}
use Rattle.beh.proofs.laws.same.Goals as goal

pub returns : goal.returns
returns c = match_same

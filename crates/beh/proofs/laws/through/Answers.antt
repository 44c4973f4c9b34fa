use Rattle.beh.proofs.Matching.{match_trans}
use Rattle.beh.proofs.laws.through.Goals as goal

pub returns : goal.returns
returns c = match_trans

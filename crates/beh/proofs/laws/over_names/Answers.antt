use Rattle.beh.proofs.Matching.{match_renamed}
use Rattle.beh.proofs.laws.over_names.Goals as goal

pub returns : goal.returns
returns c = match_renamed

use Rattle.beh.proofs.Matching.{larger}
use Rattle.beh.proofs.laws.goes_on.Goals as goal

pub returns : goal.returns
returns c = larger

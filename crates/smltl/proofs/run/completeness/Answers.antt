use Rattle.smltl.proofs.Complete.{complete}
use Rattle.smltl.proofs.run.completeness.Goals as goal

pub returns : goal.returns
returns c = complete

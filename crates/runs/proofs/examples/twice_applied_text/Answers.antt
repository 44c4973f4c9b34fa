use Rattle.runs.proofs.SmallTexts.{twice_applied_leaves}
use Rattle.runs.proofs.examples.twice_applied_text.Goals as goal

pub returns : goal.returns
returns c = twice_applied_leaves

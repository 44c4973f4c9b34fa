use Rattle.runs.proofs.SmallTexts.{decided_leaves}
use Rattle.runs.proofs.examples.decided_text.Goals as goal

pub returns : goal.returns
returns c = decided_leaves

use Rattle.runs.proofs.SmallTexts.{handled_leaves}
use Rattle.runs.proofs.examples.handled_text.Goals as goal

pub returns : goal.returns
returns c = handled_leaves

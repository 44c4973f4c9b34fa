use Rattle.runs.proofs.SmallTexts.{local_leaves}
use Rattle.runs.proofs.examples.local_text.Goals as goal

pub returns : goal.returns
returns c = local_leaves

use Rattle.runs.proofs.SmallTexts.{wraps_leaves}
use Rattle.runs.proofs.examples.wraps_text.Goals as goal

pub returns : goal.returns
returns c = wraps_leaves

use Rattle.runs.proofs.SmallTexts.{loops_leaves}
use Rattle.runs.proofs.examples.loops_text.Goals as goal

pub returns : goal.returns
returns c = loops_leaves

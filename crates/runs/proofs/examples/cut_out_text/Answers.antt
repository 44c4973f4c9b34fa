use Rattle.runs.proofs.SmallTexts.{cut_out_leaves}
use Rattle.runs.proofs.examples.cut_out_text.Goals as goal

pub returns : goal.returns
returns c = cut_out_leaves

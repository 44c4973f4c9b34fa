use Rattle.runs.proofs.SmallTexts.{list_read_leaves}
use Rattle.runs.proofs.examples.list_read_text.Goals as goal

pub returns : goal.returns
returns c = list_read_leaves

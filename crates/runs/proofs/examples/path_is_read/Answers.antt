use Rattle.runs.proofs.SmallTexts.{path_has}
use Rattle.runs.proofs.examples.path_is_read.Goals as goal

pub returns : goal.returns
returns c = path_has

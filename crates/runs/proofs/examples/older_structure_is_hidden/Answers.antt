use Rattle.runs.proofs.SmallTexts.{hidden_has}
use Rattle.runs.proofs.examples.older_structure_is_hidden.Goals as goal

pub returns : goal.returns
returns c = hidden_has

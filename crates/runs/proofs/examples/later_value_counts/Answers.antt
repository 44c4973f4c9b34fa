use Rattle.runs.proofs.SmallTexts.{shadowed_has}
use Rattle.runs.proofs.examples.later_value_counts.Goals as goal

pub returns : goal.returns
returns c = shadowed_has

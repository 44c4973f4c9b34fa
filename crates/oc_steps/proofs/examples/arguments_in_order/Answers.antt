use Rattle.oc_steps.proofs.SmallTexts.{sequenced_means, sequenced_settles}
use Rattle.oc_steps.proofs.examples.arguments_in_order.Goals as goal

pub returns : goal.returns
returns c = record { means = sequenced_means; runs = sequenced_settles }

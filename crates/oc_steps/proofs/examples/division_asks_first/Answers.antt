use Rattle.oc_steps.proofs.SmallTexts.{divides_means, divides_settles}
use Rattle.oc_steps.proofs.examples.division_asks_first.Goals as goal

pub returns : goal.returns
returns c = record { means = divides_means; runs = divides_settles }

use Rattle.oc_steps.proofs.SmallTexts.{overflows_means, overflows_settles}
use Rattle.oc_steps.proofs.examples.overflow_is_raised.Goals as goal

pub returns : goal.returns
returns c = record { means = overflows_means; runs = overflows_settles }

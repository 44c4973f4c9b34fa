use Rattle.oc_steps.proofs.SmallTexts.{structures_means, structures_settles}
use Rattle.oc_steps.proofs.examples.structures_hold_names.Goals as goal

pub returns : goal.returns
returns c = record { means = structures_means; runs = structures_settles }

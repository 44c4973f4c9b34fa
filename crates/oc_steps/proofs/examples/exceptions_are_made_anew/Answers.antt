use Rattle.oc_steps.proofs.SmallTexts.{made_anew_means, made_anew_settles}
use Rattle.oc_steps.proofs.examples.exceptions_are_made_anew.Goals as goal

pub returns : goal.returns
returns c = record { means = made_anew_means; runs = made_anew_settles }

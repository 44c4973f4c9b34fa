use Rattle.oc_steps.proofs.SmallTexts.{no_match_means, no_match_settles}
use Rattle.oc_steps.proofs.examples.match_is_raised.Goals as goal

pub returns : goal.returns
returns c = record { means = no_match_means; runs = no_match_settles }

use Rattle.oc_steps.proofs.Generalised.{generalised_is_still}
use Rattle.oc_steps.proofs.laws.generalised_is_still.Goals as goal

pub returns : goal.returns
returns c = generalised_is_still

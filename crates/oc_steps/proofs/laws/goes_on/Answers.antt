use Rattle.oc_steps.proofs.Texts.{text_goes_on}
use Rattle.oc_steps.proofs.laws.goes_on.Goals as goal

pub returns : goal.returns
returns c = text_goes_on

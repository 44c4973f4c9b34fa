use Rattle.oc_steps.proofs.Texts.{text_raises}
use Rattle.oc_steps.proofs.laws.raises_in_each_order.Goals as goal

pub returns : goal.returns
returns c = text_raises

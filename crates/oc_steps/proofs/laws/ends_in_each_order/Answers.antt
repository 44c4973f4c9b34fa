use Rattle.oc_steps.proofs.Texts.{text_ends}
use Rattle.oc_steps.proofs.laws.ends_in_each_order.Goals as goal

pub returns : goal.returns
returns c = text_ends

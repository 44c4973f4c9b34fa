use Rattle.oc_mirror.proofs.OneText.{one_text}
use Rattle.oc_mirror.proofs.law.one_text.Goals as goal

pub returns : goal.returns
returns c = one_text

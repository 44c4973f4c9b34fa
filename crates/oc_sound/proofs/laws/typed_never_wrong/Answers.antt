use Rattle.oc_sound.proofs.Texts.{never_wrong}
use Rattle.oc_sound.proofs.laws.typed_never_wrong.Goals as goal

pub returns : goal.returns
returns c = never_wrong

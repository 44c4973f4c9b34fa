use Rattle.oc_sound.proofs.Texts.{never_wrong_behind}
use Rattle.oc_sound.proofs.laws.typed_behind.Goals as goal

pub returns : goal.returns
returns c = never_wrong_behind

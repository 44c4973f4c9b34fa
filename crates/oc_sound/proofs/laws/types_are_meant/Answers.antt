use Rattle.oc_sound.proofs.Meanings.{meant_inst}
use Rattle.oc_sound.proofs.laws.types_are_meant.Goals as goal

pub returns : goal.returns
returns c = meant_inst

use Rattle.oc_sound.proofs.Texts.{row_ends_well}
use Rattle.oc_sound.proofs.laws.typed_row.Goals as goal

pub returns : goal.returns
returns c = row_ends_well

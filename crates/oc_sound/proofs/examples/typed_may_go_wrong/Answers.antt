use Rattle.oc_sound.proofs.Partial.{confused_types, confused_wrong, division_types, division_wrong, left_out_types, left_out_wrong}
use Rattle.oc_sound.proofs.examples.typed_may_go_wrong.Goals as goal

pub returns : goal.returns
returns c = record { divides = (division_types, division_wrong); matches = (left_out_types, left_out_wrong); confuses = (confused_types, confused_wrong) }

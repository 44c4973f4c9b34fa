use Rattle.oc_typing.proofs.Grows.{val_behind, con_behind, type_behind, mod_behind}
use Rattle.oc_typing.proofs.laws.behind_is_found.Goals as goal

pub returns : goal.returns
returns c = record { value = val_behind; constructor = con_behind; type_name = type_behind; structure = mod_behind }

use Rattle.mid_typing.proofs.Grows.{local_behind, mod_behind, type_behind, vid_behind}
use Rattle.mid_typing.proofs.laws.behind_is_found.Goals as goal

pub returns : goal.returns
returns c = record { binder = local_behind; value = vid_behind; type_name = type_behind; structure = mod_behind }

use Rattle.oc_typing.proofs.Grows.{path_behind}
use Rattle.oc_typing.specs.Env.{con_of, mod_of, type_of, val_of}
use Rattle.oc_typing.proofs.laws.path_behind_is_found.Goals as goal

pub returns : goal.returns
returns c = record { value = λ m. path_behind val_of m; constructor = λ m. path_behind con_of m; type_name = λ m. path_behind type_of m; structure = λ m. path_behind mod_of m }

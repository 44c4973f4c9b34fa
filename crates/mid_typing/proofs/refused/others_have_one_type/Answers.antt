use Rattle.mid_typing.proofs.RefusedBinds.{recursion_has_one_type}
use Rattle.mid_typing.proofs.Untyped.{cell_is_not_general, parameter_has_one}
use Rattle.mid_typing.proofs.refused.others_have_one_type.Goals as goal

pub returns : goal.returns
returns c = record { cell = cell_is_not_general; parameter = parameter_has_one; recursion = recursion_has_one_type }

use Rattle.mid_typing.proofs.SmallData.{assigned_types}
use Rattle.mid_typing.proofs.examples.cells_have_one_type.Goals as goal

pub returns : goal.returns
returns c = (_, assigned_types)

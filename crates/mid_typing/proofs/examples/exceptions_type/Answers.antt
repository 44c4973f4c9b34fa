use Rattle.mid_typing.proofs.SmallData.{handled_types}
use Rattle.mid_typing.proofs.examples.exceptions_type.Goals as goal

pub returns : goal.returns
returns c = (_, handled_types)

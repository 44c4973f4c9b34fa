use Rattle.mid_typing.proofs.SmallMore.{aliased_types}
use Rattle.mid_typing.proofs.examples.paths_are_read.Goals as goal

pub returns : goal.returns
returns c = (_, aliased_types)

use Rattle.mid_typing.proofs.Small.{used_twice_types}
use Rattle.mid_typing.proofs.examples.let_is_general.Goals as goal

pub returns : goal.returns
returns c = (_, used_twice_types)

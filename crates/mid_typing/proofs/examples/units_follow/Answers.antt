use Rattle.mid_typing.proofs.Units.{later_types, placed_types}
use Rattle.mid_typing.proofs.examples.units_follow.Goals as goal

pub returns : goal.returns
returns c = record { read = (_, later_types); placed = (_, placed_types) }

use Rattle.mid_typing.proofs.SmallMore.{compared_types}
use Rattle.mid_typing.proofs.Units.{lists_types, tested_types}
use Rattle.mid_typing.proofs.examples.equality_has_dictionaries.Goals as goal

pub returns : goal.returns
returns c = record { function = (_, compared_types); test = (_, tested_types); placed = (_, lists_types) }

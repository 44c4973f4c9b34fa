use Rattle.mid_typing.proofs.Grows.{items_rise, units_rise}
use Rattle.mid_typing.proofs.laws.type_names_only_rise.Goals as goal

pub returns : goal.returns
returns c = record { items = items_rise; units = units_rise }

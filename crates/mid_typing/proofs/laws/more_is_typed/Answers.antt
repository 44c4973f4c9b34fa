use Rattle.mid_typing.proofs.Weaken.{exp_more, items_more, units_type_more}
use Rattle.mid_typing.specs.Units.{plain_units}
use Rattle.mid_typing.proofs.laws.more_is_typed.Goals as goal

pub returns : goal.returns
returns c = record { types = λ s g h m c. exp_more s c g h m; binds = λ s g h m c. items_more s c g h m; units = λ s g h m c us. units_type_more s c g h m (plain_units us) }

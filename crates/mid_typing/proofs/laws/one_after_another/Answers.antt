use Rattle.mid_typing.proofs.Grows.{items_join, items_split, units_join, units_split}
use Rattle.mid_typing.proofs.laws.one_after_another.Goals as goal

pub returns : goal.returns
returns c = record { split = items_split; join = items_join; units_split = units_split; units_join = units_join }

use Rattle.mid_rules.proofs.Meanings.{placed_after, units_after}
use Rattle.mid_rules.proofs.laws.one_after_another.Goals as goal

pub returns : goal.returns
returns c = record { units = units_after; placed = placed_after }

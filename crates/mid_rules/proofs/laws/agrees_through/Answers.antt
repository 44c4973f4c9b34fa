use Rattle.mid_rules.proofs.Meanings.{through_placed, through_units}
use Rattle.mid_rules.specs.Mid.{plain_placed, plain_units}
use Rattle.mid_rules.proofs.laws.agrees_through.Goals as goal

pub returns : goal.returns
returns c = record { units = λ p units. through_units p (plain_units units); placed = λ p units. through_placed p (plain_placed units) }

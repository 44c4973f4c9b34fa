use Rattle.mid_rules.proofs.Meanings.{placed_go_on, units_go_on}
use Rattle.mid_rules.specs.Mid.{plain_placed, plain_units}
use Rattle.mid_rules.proofs.laws.goes_on.Goals as goal

pub returns : goal.returns
returns c = record { plain = units_go_on; declared = λ units. units_go_on (plain_units units); placed = λ units. placed_go_on (plain_placed units) }

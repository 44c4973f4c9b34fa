use Rattle.mid_rules.proofs.RowsMean.{adds, adds_too_much, subtracts, subtracts_too_much}
use Rattle.mid_rules.proofs.rows.checked_sums.Goals as goal

pub returns : goal.returns
returns c = record { adds = adds; adds_too_much = adds_too_much; subtracts = subtracts; subtracts_too_much = subtracts_too_much }

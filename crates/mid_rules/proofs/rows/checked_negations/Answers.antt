use Rattle.mid_rules.proofs.Quotients.{magnitude, magnitude_too_much, negates, negates_too_much}
use Rattle.mid_rules.proofs.rows.checked_negations.Goals as goal

pub returns : goal.returns
returns c = record { negates = negates; negates_too_much = negates_too_much; magnitude = magnitude; magnitude_too_much = magnitude_too_much }

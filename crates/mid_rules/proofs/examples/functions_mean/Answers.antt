use Rattle.mid_rules.proofs.SmallUnits.{left_to_right_means, used_later_means}
use Rattle.mid_rules.proofs.examples.functions_mean.Goals as goal

pub returns : goal.returns
returns c = record { order = left_to_right_means; later = used_later_means }

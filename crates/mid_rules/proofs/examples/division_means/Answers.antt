use Rattle.mid_rules.proofs.SmallUnits.{divides_means}
use Rattle.mid_rules.proofs.examples.division_means.Goals as goal

pub returns : goal.returns
returns c = divides_means

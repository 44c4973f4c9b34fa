use Rattle.mid_rules.proofs.SmallUnits.{references_mean}
use Rattle.mid_rules.proofs.examples.references_mean.Goals as goal

pub returns : goal.returns
returns c = references_mean

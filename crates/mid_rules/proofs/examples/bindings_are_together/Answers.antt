use Rattle.mid_rules.proofs.SmallUnits.{bound_together_means}
use Rattle.mid_rules.proofs.examples.bindings_are_together.Goals as goal

pub returns : goal.returns
returns c = bound_together_means

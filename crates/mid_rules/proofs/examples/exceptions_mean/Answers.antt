use Rattle.mid_rules.proofs.SmallUnits.{aliased_means, made_anew_means}
use Rattle.mid_rules.proofs.examples.exceptions_mean.Goals as goal

pub returns : goal.returns
returns c = record { alias = aliased_means; anew = made_anew_means }

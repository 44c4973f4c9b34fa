use Rattle.mid_rules.proofs.SmallUnits.{no_binding_means, no_rule_takes_means, too_large_means}
use Rattle.mid_rules.proofs.examples.failures_raise.Goals as goal

pub returns : goal.returns
returns c = record { function = no_rule_takes_means; binding = no_binding_means; sum = too_large_means }

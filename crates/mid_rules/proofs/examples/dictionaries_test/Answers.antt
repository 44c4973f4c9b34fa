use Rattle.mid_rules.proofs.SmallUnits.{by_dictionary_means}
use Rattle.mid_rules.proofs.examples.dictionaries_test.Goals as goal

pub returns : goal.returns
returns c = by_dictionary_means

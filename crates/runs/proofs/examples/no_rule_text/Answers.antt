use Rattle.runs.proofs.SmallTexts.{no_rule_stuck}
use Rattle.runs.proofs.examples.no_rule_text.Goals as goal

pub returns : goal.returns
returns c = no_rule_stuck

use Rattle.runs.proofs.SmallTexts.{no_quotient_stuck}
use Rattle.runs.proofs.examples.no_quotient_text.Goals as goal

pub returns : goal.returns
returns c = no_quotient_stuck

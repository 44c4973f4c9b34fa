use Rattle.runs.proofs.SmallTexts.{not_agree}
use Rattle.runs.proofs.examples.two_prints_differ.Goals as goal

pub returns : goal.returns
returns c = not_agree

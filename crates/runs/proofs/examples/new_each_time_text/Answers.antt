use Rattle.runs.proofs.SmallTexts.{new_raised}
use Rattle.runs.proofs.examples.new_each_time_text.Goals as goal

pub returns : goal.returns
returns c = new_raised

use Rattle.runs.proofs.SmallTexts.{new_agrees}
use Rattle.runs.proofs.examples.new_each_time_runs.Goals as goal

pub returns : goal.returns
returns c = new_agrees

use Rattle.runs.proofs.SmallTexts.{hello_agrees}
use Rattle.runs.proofs.examples.hello_runs.Goals as goal

pub returns : goal.returns
returns c = hello_agrees

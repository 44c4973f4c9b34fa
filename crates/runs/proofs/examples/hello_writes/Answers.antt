use Rattle.runs.proofs.SmallTexts.{hello_runs}
use Rattle.runs.proofs.examples.hello_writes.Goals as goal

pub returns : goal.returns
returns c = hello_runs

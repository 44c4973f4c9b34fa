use Rattle.runs.proofs.SmallTexts.{hello_has}
use Rattle.runs.proofs.examples.hello_has.Goals as goal

pub returns : goal.returns
returns c = hello_has

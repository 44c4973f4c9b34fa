use Rattle.oc_steps.proofs.SmallTexts.{loops_means, loops_settles}
use Rattle.oc_steps.proofs.examples.loop_runs.Goals as goal

pub returns : goal.returns
returns c = record { means = loops_means; runs = loops_settles }

use Rattle.oc_steps.proofs.Endless.{endless_means, never_ends}
use Rattle.oc_steps.proofs.examples.endless_loop.Goals as goal

pub returns : goal.returns
returns c = record { means = endless_means; runs = never_ends }

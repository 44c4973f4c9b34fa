use Rattle.oc_steps.proofs.SmallTexts.{cells_means, cells_settles}
use Rattle.oc_steps.proofs.examples.references_are_cells.Goals as goal

pub returns : goal.returns
returns c = record { means = cells_means; runs = cells_settles }

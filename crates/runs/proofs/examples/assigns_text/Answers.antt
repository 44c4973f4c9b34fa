use Rattle.runs.proofs.SmallTexts.{assigns_leaves}
use Rattle.runs.proofs.examples.assigns_text.Goals as goal

pub returns : goal.returns
returns c = assigns_leaves

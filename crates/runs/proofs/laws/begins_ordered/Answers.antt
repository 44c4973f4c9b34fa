use Rattle.runs.proofs.Begin.{text_ordered}
use Rattle.runs.proofs.laws.begins_ordered.Goals as goal

pub returns : goal.returns
returns c = text_ordered

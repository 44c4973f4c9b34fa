use Rattle.run_types.proofs.Basics.{text_has}
use Rattle.run_types.proofs.laws.text_begins_typed.Goals as goal

pub returns : goal.returns
returns c = text_has

use Rattle.oc_sound.proofs.Typed.{full_has}
use Rattle.oc_sound.proofs.laws.typed_expression.Goals as goal

pub returns : goal.returns
returns c = full_has

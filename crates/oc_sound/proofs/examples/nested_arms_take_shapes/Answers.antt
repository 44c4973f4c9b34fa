use Rattle.oc_sound.proofs.Nested.{nested_take}
use Rattle.oc_sound.proofs.examples.nested_arms_take_shapes.Goals as goal

pub returns : goal.returns
returns c = nested_take

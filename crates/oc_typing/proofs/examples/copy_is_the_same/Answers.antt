use Rattle.oc_typing.proofs.TypedTypes.{copied_type}
use Rattle.oc_typing.proofs.examples.copy_is_the_same.Goals as goal

pub returns : goal.returns
returns c = (_, copied_type)

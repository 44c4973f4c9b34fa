use Rattle.oc_typing.proofs.Typed.{twice_types}
use Rattle.oc_typing.proofs.examples.let_is_general.Goals as goal

pub returns : goal.returns
returns c = twice_types

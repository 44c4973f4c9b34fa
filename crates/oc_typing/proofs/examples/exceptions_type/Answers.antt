use Rattle.oc_typing.proofs.Typed.{handled_type}
use Rattle.oc_typing.proofs.examples.exceptions_type.Goals as goal

pub returns : goal.returns
returns c = handled_type

use Rattle.oc_typing.proofs.TypedTypes.{nested_types}
use Rattle.oc_typing.proofs.examples.written_scheme_is_general.Goals as goal

pub returns : goal.returns
returns c = (_, nested_types)

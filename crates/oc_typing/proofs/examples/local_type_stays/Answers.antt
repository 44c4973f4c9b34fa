use Rattle.oc_typing.proofs.TypedTypes.{inside_types}
use Rattle.oc_typing.proofs.Untyped.{local_type_stays}
use Rattle.oc_typing.proofs.examples.local_type_stays.Goals as goal

pub returns : goal.returns
returns c = record { used = inside_types; left = local_type_stays }

use Rattle.oc_typing.proofs.Weaken.{full_types, items_bind}
use Rattle.oc_typing.proofs.laws.more_is_typed.Goals as goal

pub returns : goal.returns
returns c = record { types = full_types; binds = items_bind }

use Rattle.oc_typing.proofs.Untyped.{unbound_has_none, twice_is_refused}
use Rattle.oc_typing.proofs.examples.names_are_bound_once.Goals as goal

pub returns : goal.returns
returns c = record { unbound = unbound_has_none; twice = twice_is_refused }

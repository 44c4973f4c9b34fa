use Rattle.oc_typing.proofs.TypedTypes.{no_circle_binds}
use Rattle.oc_typing.proofs.Untyped.{circle_binds_nothing}
use Rattle.oc_typing.proofs.examples.equations_end.Goals as goal

pub returns : goal.returns
returns c = record { ends = no_circle_binds; circle = circle_binds_nothing }

use Rattle.oc_typing.proofs.Typed.{cells_type}
use Rattle.oc_typing.proofs.Untyped.{functions_are_not_compared}
use Rattle.oc_typing.proofs.examples.cells_are_compared.Goals as goal

pub returns : goal.returns
returns c = record { cells = cells_type; functions = functions_are_not_compared }

use Rattle.oc_typing.proofs.Untyped.{parameter_has_one, called_has_one}
use Rattle.oc_typing.proofs.examples.others_have_one_type.Goals as goal

pub returns : goal.returns
returns c = record { parameter = parameter_has_one; expansive = called_has_one }

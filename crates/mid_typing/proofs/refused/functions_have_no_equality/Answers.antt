use Rattle.mid_typing.proofs.Untyped.{functions_have_none}
use Rattle.mid_typing.proofs.refused.functions_have_no_equality.Goals as goal

pub returns : goal.returns
returns c = functions_have_none

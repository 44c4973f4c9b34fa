use Rattle.mid_typing.proofs.TypedTypes.{exp_is_type}
use Rattle.mid_typing.proofs.laws.typed_is_type.Goals as goal

pub returns : goal.returns
returns c = exp_is_type

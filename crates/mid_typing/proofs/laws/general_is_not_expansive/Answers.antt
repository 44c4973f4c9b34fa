use Rattle.mid_typing.proofs.Generalised.{general_is_still}
use Rattle.mid_typing.proofs.laws.general_is_not_expansive.Goals as goal

pub returns : goal.returns
returns c = general_is_still

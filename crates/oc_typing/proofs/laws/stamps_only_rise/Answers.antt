use Rattle.oc_typing.proofs.Grows.{items_count}
use Rattle.oc_typing.proofs.laws.stamps_only_rise.Goals as goal

pub returns : goal.returns
returns c = items_count

use Rattle.oc_typing.proofs.Grows.{split, join}
use Rattle.oc_typing.proofs.laws.one_after_another.Goals as goal

pub returns : goal.returns
returns c = record { split = split; join = join }

use Rattle.oc_typing.proofs.Lookups.{over_more}
use Rattle.oc_typing.proofs.laws.more_stands_behind.Goals as goal

pub returns : goal.returns
returns c = over_more

use Rattle.mid_typing.proofs.Lookups.{over_more}
use Rattle.mid_typing.proofs.laws.more_stands_behind.Goals as goal

pub returns : goal.returns
returns c = over_more

use Rattle.runs.proofs.After.{ev_after}
use Rattle.runs.proofs.laws.one_after_another.Goals as goal

pub returns : goal.returns
returns c = ev_after

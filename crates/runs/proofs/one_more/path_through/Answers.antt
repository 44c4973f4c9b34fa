use Rattle.runs.proofs.Paths.{under_here, under_other}
use Rattle.runs.proofs.one_more.path_through.Goals as goal

pub returns : goal.returns
returns c = record { inside = under_here; beside = under_other }

use Rattle.runs.proofs.Paths.{put_here, put_other}
use Rattle.runs.proofs.one_more.value_put.Goals as goal

pub returns : goal.returns
returns c = record { here = put_here; beside = put_other }

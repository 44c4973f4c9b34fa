use Rattle.runs.proofs.Paths.{call_literal}
use Rattle.runs.proofs.one_more.call_by_path.Goals as goal

pub returns : goal.returns
returns c = call_literal

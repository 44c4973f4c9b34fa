use Rattle.runs.proofs.Paths.{struct_more}
use Rattle.runs.proofs.one_more.one_structure_more.Goals as goal

pub returns : goal.returns
returns c = struct_more

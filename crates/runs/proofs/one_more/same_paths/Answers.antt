use Rattle.runs.proofs.Paths.{name_same, name_self, name_other}
use Rattle.runs.proofs.one_more.same_paths.Goals as goal

pub returns : goal.returns
returns c = record { equal = name_same; itself = name_self; apart = name_other }

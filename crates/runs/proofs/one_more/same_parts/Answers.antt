use Rattle.runs.proofs.Paths.{part_same, part_self, part_other}
use Rattle.runs.proofs.one_more.same_parts.Goals as goal

pub returns : goal.returns
returns c = record { equal = part_same; itself = part_self; apart = part_other }

use Rattle.runs.proofs.SmallTexts.{many_print, many_ordered}
use Rattle.runs.proofs.one_more.many_prints_write.Goals as goal

pub returns : goal.returns
returns c = record { means = many_print; ordered = many_ordered }

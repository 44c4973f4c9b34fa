use Rattle.smltl.proofs.Listing.{some_reading, one_bad_line}
use Rattle.smltl.proofs.list.one_reading.Goals as goal

pub returns-clause-some : goal.returns-clause-some
returns-clause-some c = some_reading

pub returns-clause-apart : goal.returns-clause-apart
returns-clause-apart c = λ bytes names line good bad. let (i, line_is, bad_here, first) = bad in good.good i bad_here

pub returns-clause-line : goal.returns-clause-line
returns-clause-line c = one_bad_line

-- The statuses with which the program ends.
use Rattle.std.specs.Prelude.{ℕ}
use Rattle.smltl.specs.declared.end.End.{End}
use Rattle.smltl.specs.declared.end.End.TheVariants.{Done, BadWords, BadList, Missing, Refused, ReadFault, WriteFault, NoMemory}

abbrev pub status_of : End → ℕ
status_of Done = 0
status_of (Refused refusal) = 1
status_of BadWords = 2
status_of (BadList line) = 2
status_of (Missing name) = 3
status_of ReadFault = 3
status_of WriteFault = 3
status_of NoMemory = 4

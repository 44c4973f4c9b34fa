-- The behaviour that a value of the type of that name is.
use Rattle.beh.specs.declared.behaviour.Behaviour.{Behaviour}
use Rattle.beh.specs.declared.behaviour.Ending.{Ending}
use Rattle.beh.specs.declared.behaviour.Ending.TheVariants as ending
use Rattle.beh.specs.Behaviour as plain

abbrev pub view_end : Ending → plain.Ending
view_end ending.Ended = plain.Ended
view_end (ending.Raised name) = plain.Raised name
view_end ending.More = plain.More

abbrev pub view : Behaviour → plain.Behaviour
view b = record { output = b.output; ending = view_end b.ending }

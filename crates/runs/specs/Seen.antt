-- What is seen of a meaning, and of a place in a run.
use Rattle.std.specs.Prelude.{List, [], Option, Some, None, slice_get}
use Rattle.beh.specs.Behaviour as beh
use Rattle.runs.specs.Names.{Part}
use Rattle.runs.specs.Tree.{Exp, Is, Fail, Val, Exn, Items}
use Rattle.runs.specs.Primitives.{St}
use Rattle.runs.specs.Meaning.{Res, Done, Raised, More, Wrong}
use Rattle.runs.specs.Steps.{Step}
use Rattle.runs.specs.Scope.{Scope, held}
use Rattle.runs.specs.ItemSteps.{Work, Rest, Whole, Lost, WorkStep}

abbrev pub part_or_none : Option Part → Part
part_or_none None = []
part_or_none (Some p) = p

-- the name under which the exception of a raised value was made
abbrev pub exn_name : List Part → Val → Part
exn_name names (Exn k vs) = part_or_none (slice_get names k)
exn_name names v = []

abbrev pub shown : St → beh.Ending → beh.Behaviour
shown s e = record { output = s.out; ending = e }

-- what is seen of an evaluation; one that comes where there is no rule shows its output, and no end
abbrev pub behaviour : {A : Type 0} → Res A → beh.Behaviour
behaviour (Done a s) = shown s beh.Ended
behaviour (Raised v s) = shown s (beh.Raised (exn_name s.exns v))
behaviour (More s) = shown s beh.More
behaviour (Wrong s) = shown s beh.More

-- a tree on its way, with the state
pub record Place : Type 0 where
  pub tree : Exp
  pub st : St

abbrev pub PlaceStep : Place → Place → Type 0
PlaceStep c d = Step c.tree c.st d.tree d.st

abbrev pub seen_tree : Exp → St → beh.Behaviour
seen_tree (Is v) s = shown s beh.Ended
seen_tree (Fail v) s = shown s (beh.Raised (exn_name s.exns v))
seen_tree e s = shown s beh.More

-- what is seen of it
abbrev pub seen_place : Place → beh.Behaviour
seen_place c = seen_tree c.tree c.st

-- a row of items on its way, with the state
pub record Config : Type 0 where
  pub work : Work
  pub st : St

-- one step of a run of a text
abbrev pub ConfigStep : Config → Config → Type 0
ConfigStep c d = WorkStep c.work c.st d.work d.st

abbrev pub seen_work : Work → St → beh.Behaviour
seen_work (Whole c) s = shown s beh.Ended
seen_work (Lost v) s = shown s (beh.Raised (exn_name s.exns v))
seen_work w s = shown s beh.More

-- what is seen of it
abbrev pub seen_config : Config → beh.Behaviour
seen_config c = seen_work c.work c.st

-- a row of items, before it runs
abbrev pub at_start : Scope → Items → St → Config
at_start c is s = record { work = Rest (held c) is; st = s }

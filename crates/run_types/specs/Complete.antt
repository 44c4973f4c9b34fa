-- Rules that take each value of a type.
pub use Rattle.run_types.specs.Types.{TakesOne, Took}
use Rattle.std.specs.Prelude.{List}
use Rattle.run_types.specs.Safe.{Sub}
use Rattle.run_types.specs.Types.{HasVal, HoldsAll, Ty, World}
use Rattle.runs.specs.Env.{Env, close_rules}
use Rattle.runs.specs.Tree.{Exp, PAny, Rule, Rules, Stop, Val}

-- in each larger world; this speaks of all values, so it cannot stand inside the typing of trees
abbrev pub Complete : World → Env → Rules → Ty → Type 0
Complete w env rs u = (k : World) (m : List Val) (v : Val) → Sub w k → HoldsAll k k.cells m → HasVal k v u → TakesOne m (close_rules env rs) v

-- with a last rule for all values
abbrev pub and_else : Rules → Exp → Rules
and_else Stop b = Rule PAny b Stop
and_else (Rule p a rs) b = Rule p a (and_else rs b)

use Rattle.std.proofs.Common.{◌≡◌}
use Rattle.env_arena.specs.declared.node.EnvNode.TheViews.{size-EnvNode}
use Rattle.env_arena.specs.Spelling.{spelled}
use Rattle.env_arena.proofs.Levels.{str_in}
use Rattle.env_arena.proofs.find.find_str.Given as goal

abbrev pub invariant-loop-str : goal.invariant-loop-str
invariant-loop-str l = str_in l.name (spelled l.level) ≡ str_in l.name (spelled l.node)

abbrev pub decreases-loop-str : goal.decreases-loop-str
decreases-loop-str l = size-EnvNode l.level

use Rattle.std.proofs.Common.{◌≡◌}
use Rattle.env_arena.specs.declared.node.EnvNode.TheViews.{size-EnvNode}
use Rattle.env_arena.specs.Spelling.{spelled}
use Rattle.env_arena.proofs.Levels.{val_in}
use Rattle.env_arena.proofs.find.find_val.Given as goal

abbrev pub invariant-loop-val : goal.invariant-loop-val
invariant-loop-val l = val_in l.name (spelled l.level) ≡ val_in l.name (spelled l.node)

abbrev pub decreases-loop-val : goal.decreases-loop-val
decreases-loop-val l = size-EnvNode l.level

use Rattle.std.proofs.Common.{◌≡◌}
use Rattle.env_arena.specs.declared.node.EnvNode.TheViews.{size-EnvNode}
use Rattle.env_arena.specs.Spelling.{spelled}
use Rattle.env_arena.proofs.Levels.{tycon_in}
use Rattle.env_arena.proofs.find.find_tycon.Given as goal

abbrev pub invariant-loop-tycon : goal.invariant-loop-tycon
invariant-loop-tycon l = tycon_in l.name (spelled l.level) ≡ tycon_in l.name (spelled l.node)

abbrev pub decreases-loop-tycon : goal.decreases-loop-tycon
decreases-loop-tycon l = size-EnvNode l.level

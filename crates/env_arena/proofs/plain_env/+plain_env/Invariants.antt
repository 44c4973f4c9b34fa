use Rattle.std.proofs.Common.{◌≡◌, ◌+◌, ◌*◌, ◌++◌, map, drop}
use Rattle.env_arena.specs.declared.node.EnvNode.TheViews.{size-EnvNode}
use Rattle.env_arena.specs.Spelling.{spelled_str}
use Rattle.env_arena.proofs.plain_env.+plain_env.Given as goal

abbrev pub invariant-plain_strs-loop-str : goal.invariant-plain_strs-loop-str
invariant-plain_strs-loop-str l = l.done ++ map spelled_str (drop l.str-index l.str-items) ≡ map spelled_str l.str-items

abbrev pub decreases-plain_env : goal.decreases-plain_env
decreases-plain_env l = 2 * size-EnvNode l.node.now + 1

abbrev pub decreases-plain_strs : goal.decreases-plain_strs
decreases-plain_strs l = 2 * size-EnvNode l.node.now

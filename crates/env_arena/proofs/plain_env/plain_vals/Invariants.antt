use Rattle.std.proofs.Common.{◌≡◌, ◌++◌, map, drop}
use Rattle.env_arena.specs.Spelling.{spelled_val}
use Rattle.env_arena.proofs.plain_env.plain_vals.Given as goal

abbrev pub invariant-loop-val : goal.invariant-loop-val
invariant-loop-val l = l.done ++ map spelled_val (drop l.val-index l.val-items) ≡ map spelled_val l.val-items

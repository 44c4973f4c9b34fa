use Rattle.std.proofs.Common.{◌≡◌, ◌++◌, map, drop, IsTrue}
use Rattle.std.specs.List.{list_all}
use Rattle.env_arena.specs.Settled.{is_settled_val}
use Rattle.env_arena.specs.Spelling.{spelled_val}
use Rattle.env_arena.proofs.put_env.val_nodes.Given as goal

abbrev pub invariant-loop-val : goal.invariant-loop-val
invariant-loop-val l =
    (map spelled_val l.nodes.items ++ drop l.val-index l.vals ≡ l.vals) × IsTrue (list_all is_settled_val (drop l.val-index l.vals))

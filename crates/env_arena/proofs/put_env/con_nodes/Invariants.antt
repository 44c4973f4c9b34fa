use Rattle.std.proofs.Common.{◌≡◌, ◌++◌, map, drop, IsTrue}
use Rattle.std.specs.List.{list_all}
use Rattle.env_arena.specs.Settled.{is_settled_con}
use Rattle.env_arena.specs.Spelling.{spelled_con}
use Rattle.env_arena.proofs.put_env.con_nodes.Given as goal

abbrev pub invariant-loop-con : goal.invariant-loop-con
invariant-loop-con l =
    (map spelled_con l.nodes.items ++ drop l.con-index l.cons ≡ l.cons) × IsTrue (list_all is_settled_con (drop l.con-index l.cons))

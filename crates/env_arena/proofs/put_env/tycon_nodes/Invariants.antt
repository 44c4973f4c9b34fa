use Rattle.std.proofs.Common.{◌≡◌, ◌++◌, map, drop, IsTrue}
use Rattle.std.specs.List.{list_all}
use Rattle.env_arena.specs.Settled.{is_settled_tycon}
use Rattle.env_arena.specs.Spelling.{spelled_tycon}
use Rattle.env_arena.proofs.put_env.tycon_nodes.Given as goal

abbrev pub invariant-loop-tycon : goal.invariant-loop-tycon
invariant-loop-tycon l =
    (map spelled_tycon l.nodes.items ++ drop l.tycon-index l.tycons ≡ l.tycons) × IsTrue (list_all is_settled_tycon (drop l.tycon-index l.tycons))

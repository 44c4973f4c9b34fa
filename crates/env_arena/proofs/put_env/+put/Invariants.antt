use Rattle.std.proofs.Common.{◌≡◌, ◌++◌, map, drop, IsTrue}
use Rattle.std.specs.List.{list_all}
use Rattle.tl_text.specs.Pairs.{map_second}
use Rattle.env_arena.specs.Settled.{is_settled_env}
use Rattle.env_arena.specs.Spelling.{spelled_str}
use Rattle.env_arena.proofs.put_env.+put.Given as goal

abbrev pub invariant-str_nodes-loop-str : goal.invariant-str_nodes-loop-str
invariant-str_nodes-loop-str l =
    (map spelled_str l.nodes.items ++ drop l.str-index l.strs ≡ l.strs) ×
    IsTrue (list_all (λ s. s.1) (map_second is_settled_env (drop l.str-index l.strs)))

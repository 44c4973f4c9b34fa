use Rattle.std.proofs.Common.{◌≡◌, ◌<◌, ◌≤◌, ℕ, List, All, map, reverse}
use Rattle.sml_static.specs.declared.env.Env.{out-Env}
use Rattle.env_arena.specs.declared.node.EnvNode.TheViews.{size-EnvNode, size-StrNode}
use Rattle.env_arena.specs.Names.{has}
use Rattle.env_arena.specs.Over.{has_name, over}
use Rattle.env_arena.specs.Spelling.{spelled, spelled_str}
use Rattle.env_arena.proofs.flat.all_strs.Given as goal

abbrev pub invariant-levels : goal.invariant-levels
invariant-levels l = record {
  rest : over (λ s. s.0) (out-Env (spelled l.level)).strs (map spelled_str (reverse l.row.items)) ≡ (out-Env (spelled l.node)).strs;
  names : (n : List ℕ) → has l.seen n ≡ has_name (λ s. (spelled_str s).0) n (reverse l.row.items);
  depth : All (λ s. size-StrNode s < size-EnvNode l.node) (reverse l.row.items);
  within : size-EnvNode l.level ≤ size-EnvNode l.node;
}

abbrev pub decreases-levels : goal.decreases-levels
decreases-levels l = size-EnvNode l.level

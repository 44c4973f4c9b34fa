use Rattle.std.proofs.Common.{◌≡◌, ℕ, List, map, reverse}
use Rattle.sml_static.specs.declared.env.Env.{out-Env}
use Rattle.env_arena.specs.declared.node.EnvNode.TheViews.{size-EnvNode}
use Rattle.env_arena.specs.Names.{has}
use Rattle.env_arena.specs.Over.{has_name, over}
use Rattle.env_arena.specs.Spelling.{spelled, spelled_val}
use Rattle.env_arena.proofs.flat.all_vals.Given as goal

abbrev pub invariant-levels : goal.invariant-levels
invariant-levels l = record {
  rest : over (λ v. v.0) (out-Env (spelled l.level)).vals (map spelled_val (reverse l.row.items)) ≡ (out-Env (spelled l.node)).vals;
  names : (n : List ℕ) → has l.seen n ≡ has_name (λ v. v.name.now) n (reverse l.row.items);
}

abbrev pub decreases-levels : goal.decreases-levels
decreases-levels l = size-EnvNode l.level

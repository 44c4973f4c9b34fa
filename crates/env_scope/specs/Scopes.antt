-- A scope whose index finds what its environment binds.
use Rattle.std.specs.Prelude.{◌≡◌, ℕ, List}
use Rattle.std.specs.Option.{option_map}
use Rattle.sml_static.specs.declared.env.Env.{Env, out-Env}
use Rattle.sml_static.specs.Lookups.{last_named}
use Rattle.env_arena.specs.Spelling.{spelled, spelled_val, spelled_tycon, spelled_str}
use Rattle.env_scope.specs.declared.tree.Tree.{Tree}
use Rattle.env_scope.specs.declared.scope.Scope.{Scope}
use Rattle.env_scope.specs.Index.{bound, val_of, tycon_of, str_of}

-- the tree finds under each name what the environment binds to it, class by class
pub record Agrees (tree : Tree) (e : Env) : Type 0 where
  pub vals : (n : List ℕ) → option_map spelled_val (val_of (bound tree n)) ≡ last_named (λ v. v.0) n (out-Env e).vals
  pub tycons : (n : List ℕ) → option_map spelled_tycon (tycon_of (bound tree n)) ≡ last_named (λ t. t.0) n (out-Env e).tycons
  pub strs : (n : List ℕ) → option_map spelled_str (str_of (bound tree n)) ≡ last_named (λ s. s.0) n (out-Env e).strs

-- the index of a scope does so for its environment
abbrev pub IsIndexed : Scope → Type 0
IsIndexed s = Agrees s.index (spelled s.env.now)

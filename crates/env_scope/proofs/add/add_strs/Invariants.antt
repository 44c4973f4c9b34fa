use Rattle.std.proofs.Common.{◌≡◌, ℕ, List, drop}
use Rattle.std.specs.Option.{option_or}
use Rattle.sml_static.specs.Lookups.{last_named}
use Rattle.env_arena.specs.Spelling.{spelled_str}
use Rattle.env_scope.specs.Index.{bound, val_of, tycon_of, str_of, Keeps}
use Rattle.env_scope.proofs.add.add_strs.Given as goal

abbrev pub invariant-loop-str : goal.invariant-loop-str
invariant-loop-str l = record {
  vals : Keeps val_of l.initial.tree l.tree;
  tycons : Keeps tycon_of l.initial.tree l.tree;
  strs : (n : List ℕ) → option_or (last_named (λ s. (spelled_str s).0) n (drop l.str-index l.strs)) (str_of (bound l.tree n)) ≡ option_or (last_named (λ s. (spelled_str s).0) n l.strs) (str_of (bound l.initial.tree n));
}

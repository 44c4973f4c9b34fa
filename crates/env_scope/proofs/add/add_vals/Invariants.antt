use Rattle.std.proofs.Common.{◌≡◌, ℕ, List, drop}
use Rattle.std.specs.Option.{option_or}
use Rattle.sml_static.specs.Lookups.{last_named}
use Rattle.env_arena.specs.Spelling.{spelled_str}
use Rattle.env_scope.specs.Index.{bound, val_of, tycon_of, str_of, Keeps}
use Rattle.env_scope.proofs.add.add_vals.Given as goal

abbrev pub invariant-loop-val : goal.invariant-loop-val
invariant-loop-val l = record {
  vals : (n : List ℕ) → option_or (last_named (λ v. v.name.now) n (drop l.val-index l.vals)) (val_of (bound l.tree n)) ≡ option_or (last_named (λ v. v.name.now) n l.vals) (val_of (bound l.initial.tree n));
  tycons : Keeps tycon_of l.initial.tree l.tree;
  strs : Keeps str_of l.initial.tree l.tree;
}

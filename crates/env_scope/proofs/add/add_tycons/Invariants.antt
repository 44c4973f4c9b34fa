use Rattle.std.proofs.Common.{◌≡◌, ℕ, List, drop}
use Rattle.std.specs.Option.{option_or}
use Rattle.sml_static.specs.Lookups.{last_named}
use Rattle.env_arena.specs.Spelling.{spelled_str}
use Rattle.env_scope.specs.Index.{bound, val_of, tycon_of, str_of, Keeps}
use Rattle.env_scope.proofs.add.add_tycons.Given as goal

abbrev pub invariant-loop-tycon : goal.invariant-loop-tycon
invariant-loop-tycon l = record {
  vals : Keeps val_of l.initial.tree l.tree;
  tycons : (n : List ℕ) → option_or (last_named (λ t. t.name.now) n (drop l.tycon-index l.tycons)) (tycon_of (bound l.tree n)) ≡ option_or (last_named (λ t. t.name.now) n l.tycons) (tycon_of (bound l.initial.tree n));
  strs : Keeps str_of l.initial.tree l.tree;
}

-- Sets of names.
use Rattle.std.specs.Prelude.{ℕ, Bool, List}
use Rattle.std.specs.Str.{bytes_eq}
use Rattle.std.specs.HashSet.{contains_by}
use Rattle.env_arena.specs.declared.names.Names.{Names}

-- whether a set has the name
abbrev pub has : Names → List ℕ → Bool
has s name = contains_by (λ k. bytes_eq name k.now) s.names

-- Rows of pairs.
use Rattle.std.specs.Prelude.{List, map}

-- the second of each pair
abbrev pub seconds : {A B : Type 0} → List (A × B) → List B
seconds = map (λ p. p.1)

-- f of the second of each pair
abbrev pub map_second : {A B C : Type 0} → (B → C) → List (A × B) → List (A × C)
map_second f = map (λ p. (p.0, f p.1))

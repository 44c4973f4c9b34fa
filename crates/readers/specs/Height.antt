-- Trees with their heights beside them.
use Rattle.std.specs.Prelude.{ℕ, List, [], ◌∷◌, max}

-- the height of the highest
abbrev pub tallest : {T : Type 0} → List (T × ℕ) → ℕ
tallest [] = 0
tallest (x ∷ xs) = max x.1 (tallest xs)

-- the trees alone
abbrev pub trees : {T : Type 0} → List (T × ℕ) → List T
trees [] = []
trees (x ∷ xs) = x.0 ∷ trees xs

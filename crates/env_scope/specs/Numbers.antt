-- The number of a name, by whose bits the tree is ordered.
use Rattle.std.specs.Prelude.{ℕ, ◌+◌, ◌*◌, ◌/◌, ◌%◌, ◌^◌, List, [], ◌∷◌}

abbrev pub number_from : ℕ → List ℕ → ℕ
number_from n [] = n
number_from n (b ∷ bs) = number_from ((n * 131 + b + 1) % 4294967291) bs

abbrev pub number_of : List ℕ → ℕ
number_of = number_from 0

-- the bits that are left of it at a depth
abbrev pub bits_at : ℕ → List ℕ → ℕ
bits_at depth name = number_of name / 2 ^ depth

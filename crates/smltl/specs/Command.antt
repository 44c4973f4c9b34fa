-- The command line.
use Rattle.std.specs.Prelude.{◌≡◌, ℕ, Bool, false, ◌==◌, List, [], ◌∷◌}

-- a word that begins with - and is longer than one byte
abbrev pub is_option : List ℕ → Bool
is_option [] = false
is_option (b ∷ []) = false
is_option (b ∷ c ∷ bytes) = b == 45

-- The words are the program's name and the name of a list.
abbrev pub IsCommand : List (List ℕ) → List ℕ → Type 0
IsCommand words list = (program : List ℕ) × (words ≡ program ∷ list ∷ []) × (is_option list ≡ false)

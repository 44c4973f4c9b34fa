-- Parts and paths.
use Rattle.std.specs.Prelude.{ℕ, List, [], ◌∷◌, Bool, true, false, nat_eq, if◌then◌else◌}

-- the bytes of an identifier
abbrev pub Part : Type 0
Part = List ℕ

-- a path, first part first; a variable is a path of one part
abbrev pub Name : Type 0
Name = List Part

-- the parts have the same bytes
abbrev pub same_part : Part → Part → Bool
same_part [] [] = true
same_part (a ∷ p) (b ∷ q) = if nat_eq a b then same_part p q else false
same_part _ _ = false

-- the paths have the same parts
abbrev pub same : Name → Name → Bool
same [] [] = true
same (p ∷ x) (q ∷ y) = if same_part p q then same x y else false
same _ _ = false

abbrev pub last_or : Part → Name → Part
last_or p [] = p
last_or p (q ∷ x) = last_or q x

-- the last part of a path
abbrev pub last_part : Name → Part
last_part x = last_or [] x

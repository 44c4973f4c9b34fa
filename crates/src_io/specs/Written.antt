-- What a device that takes text was given, where it tells.
use Rattle.std.specs.Prelude.{◌≡◌, ℕ, ◌≤◌, List, ◌++◌, take, length, Option, Some, None}

-- The bytes now are those before and these after them.
abbrev pub Appends : Option (List ℕ) → Option (List ℕ) → List ℕ → Type 0
Appends None now bytes = now ≡ None
Appends (Some before) now bytes = now ≡ Some (before ++ bytes)

-- Some front of these bytes came after those before.
abbrev pub AppendsFront : Option (List ℕ) → Option (List ℕ) → List ℕ → Type 0
AppendsFront before now bytes = (n : ℕ) × (n ≤ length bytes) × Appends before now (take n bytes)

-- Rows in two parts: their items without heights, and the height of the highest.
use Rattle.std.specs.Prelude.{ℕ, List, map}
use Rattle.readers.specs.Forms.{highest}

abbrev pub summed : {T S : Type 0} → (T → S) → (T → ℕ) → List T → List S × ℕ
summed tree tall xs = (map tree xs, highest tall xs)

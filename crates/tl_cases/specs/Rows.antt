-- Lists of rows, each a key and its value, and the look-up in them.
use Rattle.std.specs.Prelude.{◌≡◌, ℕ, length, Bool, true, cond, ◌&&◌, List, [], ◌∷◌, map, Option, Some, None}
use Rattle.std.specs.Ordering.{nat_cmp, is_lt}
use Rattle.std.specs.Cmp.Lexicographic.{slice_cmp}
use Rattle.std.specs.List.{range_with_len}
use Rattle.std.specs.Str.{bytes_eq}
use Rattle.tl_cases.specs.declared.row.Row.{Row}

-- a row as contracts see it: the bytes of its key, and its value
abbrev pub pair_of : Row → List ℕ × ℕ
pair_of row = (row.key.now, row.value)

abbrev pub pairs_of : List Row → List (List ℕ × ℕ)
pairs_of rows = map pair_of rows

-- whether the keys increase strictly, by bytes, and the first of them comes after this key
abbrev pub increases_from : List ℕ → List (List ℕ × ℕ) → Bool
increases_from key [] = true
increases_from key (row ∷ rows) = is_lt (slice_cmp nat_cmp key row.0) && increases_from row.0 rows

-- whether the keys increase strictly, by bytes
abbrev pub is_increasing : List (List ℕ × ℕ) → Bool
is_increasing [] = true
is_increasing (row ∷ rows) = increases_from row.0 rows

-- the value of the first row that has this key
abbrev pub value_at : List ℕ → List (List ℕ × ℕ) → Option ℕ
value_at key [] = None
value_at key (row ∷ rows) = cond (bytes_eq row.0 key) (Some row.1) (value_at key rows)

-- whether the words, in this order, have the numbers from 0 on as their values
abbrev pub IsNumbering : List (List ℕ) → List (List ℕ × ℕ) → Type 0
IsNumbering words rows = map (λ word. value_at word rows) words ≡ map Some (range_with_len 0 (length words))

-- The list file: the names of the sources, a line each.
use Rattle.std.specs.Prelude.{◌≡◌, ◌⊎◌, ℕ, suc, ◌<◌, ◌≤◌, ◌==◌, List, [], ◌∷◌, map, length, take, Bool, true, false, not, slice_index_or}
use Rattle.std.specs.List.{slice_split, filter, count_by, Contains}
use Rattle.std.specs.Str.{IsUtf8}
use Rattle.std.specs.Str.Lines.{strip_carriage_return}

-- how many bytes a list may have
abbrev pub list_limit : ℕ
list_limit = 8388608

-- how many bytes a name may have
abbrev pub name_limit : ℕ
name_limit = 1024

-- how many names a list may have
abbrev pub names_limit : ℕ
names_limit = 4096

-- what stands between the line feeds, which are byte 10; after a last line feed it is one more line, an empty one
abbrev pub parts_of : List ℕ → List (List ℕ)
parts_of = slice_split (λ b. b == 10)

-- the lines: of each part what is left without one carriage return at its end
abbrev pub lines_of : List ℕ → List (List ℕ)
lines_of bytes = map strip_carriage_return (parts_of bytes)

-- an empty line, or one that begins with #, which is byte 35
abbrev pub is_passed_over : List ℕ → Bool
is_passed_over [] = true
is_passed_over (b ∷ bs) = b == 35

-- the lines that are not passed over, in their order
abbrev pub names_among : List (List ℕ) → List (List ℕ)
names_among = filter (λ line. not (is_passed_over line))

-- The line cannot be the next name after these: it is too long or no text, it was given before, or there are enough.
abbrev pub IsNoName : List (List ℕ) → List ℕ → Type 0
IsNoName names line =
    (name_limit < length line)
    ⊎ ((IsUtf8 line → ⊥)
    ⊎ (Contains names line
    ⊎ (names_limit ≤ length names)))

-- The line of this number, from 0, holds the first byte past the limit: its number is that of the line feeds before
-- this byte. A line feed belongs to the line that it ends.
abbrev pub HoldsPastLimit : List ℕ → ℕ → Type 0
HoldsPastLimit bytes i = (list_limit < length bytes) × (i ≡ count_by (λ b. b == 10) (take list_limit bytes))

-- The line of this number, from 0, is not passed over, and cannot be the next name after those before it.
abbrev pub IsNoNameAt : List ℕ → ℕ → Type 0
IsNoNameAt bytes i =
    (i < length (lines_of bytes))
    × (is_passed_over (slice_index_or (lines_of bytes) i []) ≡ false)
    × IsNoName (names_among (take i (lines_of bytes))) (slice_index_or (lines_of bytes) i [])

-- The line of this number, from 0, is bad, where all before it are good.
abbrev pub IsBadAt : List ℕ → ℕ → Type 0
IsBadAt bytes i = HoldsPastLimit bytes i ⊎ IsNoNameAt bytes i

-- No line is bad, and these are the names.
pub record Listed (bytes : List ℕ) (names : List (List ℕ)) : Type 0 where
  pub good : (i : ℕ) → IsBadAt bytes i → ⊥
  pub listed : names ≡ names_among (lines_of bytes)

-- The line of this number, from 1, is the first bad one.
abbrev pub BadLine : List ℕ → ℕ → Type 0
BadLine bytes line = (i : ℕ) × (line ≡ suc i) × IsBadAt bytes i × ((j : ℕ) → j < i → IsBadAt bytes j → ⊥)

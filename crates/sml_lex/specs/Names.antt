-- Identifiers, long ones and type variables.
use Rattle.std.specs.Prelude.{ℕ, Bool, true, false, List, [], ◌∷◌, ◌==◌, ◌&&◌, ◌||◌, not, is_some, take, if◌then◌else◌}
use Rattle.std.specs.List.{prefix_len}
use Rattle.tl_cases.specs.Rows.{value_at}
use Rattle.tl_cases.specs.Words.{sml_rows}
use Rattle.sml_lex.specs.Bytes.{is_letter, is_name_byte, is_symbol, first_is, all_are, some_are}

abbrev pub with_first : ℕ → List (List ℕ) → List (List ℕ)
with_first c [] = (c ∷ []) ∷ []
with_first c (part ∷ parts) = (c ∷ part) ∷ parts

-- the parts of a run, which stand between its dots
abbrev pub parts_of : List ℕ → List (List ℕ)
parts_of [] = [] ∷ []
parts_of (c ∷ s) = if c == 46 then [] ∷ parts_of s else with_first c (parts_of s)

-- the bytes are no reserved word
abbrev pub is_free : List ℕ → Bool
is_free part = not (is_some (value_at part sml_rows))

-- a letter, and then letters, digits, primes and underscores
abbrev pub is_alphanumeric : List ℕ → Bool
is_alphanumeric part = first_is is_letter part && all_are is_name_byte part

abbrev pub is_symbolic : List ℕ → Bool
is_symbolic part = some_are is_symbol part

-- an identifier, which what follows does not go on with
abbrev pub is_identifier : List ℕ → List ℕ → Bool
is_identifier part next =
    is_free part && ((is_alphanumeric part && not (first_is is_name_byte next)) || (is_symbolic part && not (first_is is_symbol next)))

abbrev pub is_last : List (List ℕ) → Bool
is_last [] = true
is_last (part ∷ parts) = false

-- a long identifier: alphanumeric parts and then an identifier
abbrev pub is_long : List (List ℕ) → List ℕ → Bool
is_long [] next = false
is_long (part ∷ parts) next = if is_last parts then is_identifier part next else is_free part && is_alphanumeric part && is_long parts next

-- ---- as the code looks ahead

-- how many bytes the whole run at the front takes, of letters and the like behind a letter, or of symbols
abbrev pub whole_run : List ℕ → ℕ
whole_run s = if first_is is_letter s then prefix_len is_name_byte s else prefix_len is_symbol s

-- the same, and 0 where the run is a reserved word
abbrev pub free_run : List ℕ → ℕ
free_run s = if is_free (take (whole_run s) s) then whole_run s else 0

-- the same behind a dot
abbrev pub next_part : List ℕ → ℕ
next_part [] = 0
next_part (c ∷ s) = if c == 46 then free_run s else 0

-- Numerals: integers, words and reals, each a whole run of bytes.
use Rattle.std.specs.Prelude.{◌≡◌, ℕ, ℤ, zero, suc, Bool, true, false, List, [], ◌∷◌, Option, Some, None, nat_le, ◌==◌, ◌&&◌, ◌||◌, if◌then◌else◌, pos, negsuc}
use Rattle.std.specs.List.{prefix_len}
use Rattle.tl_text.specs.declared.lit.Lit.TheVariants.{Int, Word}
use Rattle.sml_lex.specs.declared.token.Kind.{Kind}
use Rattle.sml_lex.specs.declared.token.Kind.TheVariants.{Lit}
use Rattle.sml_lex.specs.Bytes.{is_digit, is_hex, first_is, some_are, number}

-- the bytes behind a sign, if there is one
abbrev pub unsigned : List ℕ → List ℕ
unsigned [] = []
unsigned (c ∷ s) = if c == 126 then s else c ∷ s

-- whether the run begins with a sign
abbrev pub is_signed : List ℕ → Bool
is_signed s = first_is (λ c. c == 126) s

-- one digit or more, and then a run that passes
abbrev pub digits_then : (List ℕ → Bool) → List ℕ → Bool
digits_then test [] = false
digits_then test (c ∷ s) = is_digit c && (test s || digits_then test s)

-- E or e, perhaps a sign, and digits
abbrev pub is_exponent : List ℕ → Bool
is_exponent [] = false
is_exponent (c ∷ s) = (c == 69 || c == 101) && some_are is_digit (unsigned s)

-- the end of the run, or an exponent
abbrev pub is_tail : List ℕ → Bool
is_tail [] = true
is_tail (c ∷ s) = is_exponent (c ∷ s)

-- a point, digits, and perhaps an exponent
abbrev pub is_fraction : List ℕ → Bool
is_fraction [] = false
is_fraction (c ∷ s) = c == 46 && digits_then is_tail s

-- digits, and a fraction or an exponent
abbrev pub is_real : List ℕ → Bool
is_real s = digits_then (λ r. is_fraction r || is_exponent r) s

-- what stands behind these two bytes
abbrev pub behind_two : ℕ → ℕ → List ℕ → List ℕ
behind_two a b [] = []
behind_two a b (c ∷ []) = []
behind_two a b (c ∷ d ∷ s) = if c == a && d == b then s else []

-- what stands behind these three bytes
abbrev pub behind_three : ℕ → ℕ → ℕ → List ℕ → List ℕ
behind_three a b c [] = []
behind_three a b c (d ∷ s) = if d == a then behind_two b c s else []

-- what a run of bytes is: a token, a literal out of range, or a real literal
pub data Reading : Type 0 where
  Token : Kind → Reading
  OutOfRange : Reading
  Real : Reading

-- the number, or its negation
abbrev pub signed : Bool → ℕ → ℤ
signed false n = pos n
signed true zero = pos 0
signed true (suc n) = negsuc n

abbrev pub int_reading : Bool → ℕ → Reading
int_reading negative n = if nat_le n 4611686018427387903 then Token (Lit (Int (signed negative n))) else OutOfRange

abbrev pub word_reading : ℕ → Reading
word_reading n = if nat_le n 4294967295 then Token (Lit (Word n)) else OutOfRange

-- what a run that begins with a digit, or with a sign and a digit, is: an integer, decimal or hexadecimal behind 0x; a word
-- behind 0w or 0wx; or a real
abbrev pub number_reading : List ℕ → Option Reading
number_reading s =
    if some_are is_digit (unsigned s) then Some (int_reading (is_signed s) (number 10 (unsigned s))) else
    (if some_are is_hex (behind_two 48 120 (unsigned s)) then Some (int_reading (is_signed s) (number 16 (behind_two 48 120 (unsigned s)))) else
    (if some_are is_digit (behind_two 48 119 s) then Some (word_reading (number 10 (behind_two 48 119 s))) else
    (if some_are is_hex (behind_three 48 119 120 s) then Some (word_reading (number 16 (behind_three 48 119 120 s))) else
    (if is_real (unsigned s) then Some Real else None))))

-- ---- as the code looks ahead

-- digits follow, behind a sign or at once
abbrev pub has_exponent : List ℕ → Bool
has_exponent [] = false
has_exponent (c ∷ s) = if c == 126 then first_is is_digit s else is_digit c

-- digits go on to a real literal with these bytes
abbrev pub goes_on : List ℕ → Bool
goes_on [] = false
goes_on (c ∷ s) = if c == 46 then first_is is_digit s else (c == 69 || c == 101) && has_exponent s

-- a text behind a sign, or alone
abbrev pub with_sign : Bool → List ℕ → List ℕ
with_sign true s = 126 ∷ s
with_sign false s = s

-- no word literal stands at the front
pub record NoWord (s : List ℕ) : Type 0 where
  pub hexadecimal : prefix_len is_hex (behind_three 48 119 120 s) ≡ 0
  pub decimal : prefix_len is_digit (behind_two 48 119 s) ≡ 0

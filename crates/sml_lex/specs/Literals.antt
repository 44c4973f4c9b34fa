-- String and character literals, read from left to right.
use Rattle.std.specs.Prelude.{◌≡◌, ℕ, ◌<◌, ◌≤◌, ◌+◌, ◌-◌, ◌*◌, Bool, List, [], ◌∷◌, drop, Option, Some, None, nat_le, ◌==◌, ◌&&◌, not, if◌then◌else◌}
use Rattle.std.specs.List.{prefix_len}
use Rattle.tl_text.specs.declared.code.Code.{Code}
use Rattle.tl_text.specs.declared.code.Code.TheVariants.{BadToken, BadEscape, OpenString}
use Rattle.sml_lex.specs.Bytes.{is_white, is_control, is_digit, is_hex, digit_value}
use Rattle.sml_lex.specs.declared.literal.Item.{Item}
use Rattle.sml_lex.specs.declared.literal.Item.TheVariants.{Close, Char, Gap, Fails}
use Rattle.sml_lex.specs.declared.literal.Literal.{Literal}
use Rattle.sml_lex.specs.declared.literal.Literal.TheVariants.{Read, Open}

-- the character of an escape of one byte: \a \b \t \n \v \f \r \" \\
abbrev pub simple_escape : ℕ → Option ℕ
simple_escape c =
    if c == 97 then Some 7 else
    (if c == 98 then Some 8 else
    (if c == 116 then Some 9 else
    (if c == 110 then Some 10 else
    (if c == 118 then Some 11 else
    (if c == 102 then Some 12 else
    (if c == 114 then Some 13 else
    (if c == 34 then Some 34 else
    (if c == 92 then Some 92 else None))))))))

-- the character of \^c
abbrev pub control_escape : List ℕ → Item
control_escape [] = Fails OpenString
control_escape (c ∷ s) = if nat_le 64 c && nat_le c 95 then Char (c - 64) 3 else Fails BadEscape

-- the character of an escape by its code: digits of these weights. The sum so far is the least code that can still come,
-- so nothing goes on once it passes 255
abbrev pub code_escape : (ℕ → Bool) → ℕ → List ℕ → ℕ → List ℕ → Item
code_escape test long [] sum s = Char sum long
code_escape test long (weight ∷ weights) sum [] = Fails OpenString
code_escape test long (weight ∷ weights) sum (c ∷ s) =
    if test c && nat_le (sum + digit_value c * weight) 255 then code_escape test long weights (sum + digit_value c * weight) s else Fails BadEscape

-- a gap: white space up to a backslash
abbrev pub gap_end : ℕ → List ℕ → Item
gap_end n [] = Fails OpenString
gap_end n (c ∷ s) = if c == 92 then Gap (n + 2) else Fails BadEscape

-- what the bytes behind a backslash stand for, counted with the backslash
abbrev pub escape_by : Option ℕ → ℕ → List ℕ → Item
escape_by (Some v) c s = Char v 2
escape_by None c s =
    if c == 94 then control_escape s else
    (if is_digit c then code_escape is_digit 4 (100 ∷ 10 ∷ 1 ∷ []) 0 (c ∷ s) else
    (if c == 117 then code_escape is_hex 6 (4096 ∷ 256 ∷ 16 ∷ 1 ∷ []) 0 s else
    (if is_white c then gap_end (prefix_len is_white (c ∷ s)) (drop (prefix_len is_white (c ∷ s)) (c ∷ s)) else Fails BadEscape)))

abbrev pub escape_at : List ℕ → Item
escape_at [] = Fails OpenString
escape_at (c ∷ s) = escape_by (simple_escape c) c s

-- what stands next inside a literal: its closing quote, a character with its number of bytes, a gap, or a failure
abbrev pub item_at : List ℕ → Item
item_at [] = Fails OpenString
item_at (c ∷ s) =
    if c == 34 then Close else
    (if c == 92 then escape_at s else
    (if c == 10 then Fails OpenString else
    (if is_control c && not (c == 9) then Fails BadToken else Char c 1)))

-- the bytes behind an opening quote, the characters up to the closing one, and how many bytes these take with it
pub data Body : List ℕ → List ℕ → ℕ → Type 0 where
  closes : {s : List ℕ} → item_at s ≡ Close → Body s [] 1
  adds : {s vs : List ℕ} {m : ℕ} (v n : ℕ) → item_at s ≡ Char v n → Body (drop n s) vs m → Body s (v ∷ vs) (n + m)
  skips : {s vs : List ℕ} {m : ℕ} (n : ℕ) → item_at s ≡ Gap n → Body (drop n s) vs m → Body s vs (n + m)

-- the bytes behind an opening quote, and how many stand before the failure that is met first
pub data BodyFails : List ℕ → ℕ → Code → Type 0 where
  here : {s : List ℕ} {code : Code} → item_at s ≡ Fails code → BodyFails s 0 code
  behind : {s : List ℕ} {code : Code} {m : ℕ} (v n : ℕ) → item_at s ≡ Char v n → BodyFails (drop n s) m code → BodyFails s (n + m) code
  later : {s : List ℕ} {code : Code} {m : ℕ} (n : ℕ) → item_at s ≡ Gap n → BodyFails (drop n s) m code → BodyFails s (n + m) code

-- a literal is read to its closing quote, or fails
abbrev pub BodyReads : List ℕ → Literal → Type 0
BodyReads s (Read text n) = Body s text.items n
BodyReads s (Open n code) = BodyFails s n code

-- an item takes a byte at least, and at most so many
abbrev pub ItemWithin : Item → ℕ → Type 0
ItemWithin Close most = 0 < most
ItemWithin (Char v n) most = (0 < n) × (n ≤ most)
ItemWithin (Gap n) most = (0 < n) × (n ≤ most)
ItemWithin (Fails code) most = Unit {0}

-- a literal takes at most so many bytes
abbrev pub BodyWithin : Literal → ℕ → Type 0
BodyWithin (Read text n) most = n ≤ most
BodyWithin (Open n code) most = n ≤ most

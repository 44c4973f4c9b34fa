-- Kinds of bytes, and small tests on lists of bytes.
use Rattle.std.specs.Prelude.{ℕ, Bool, true, false, ◌&&◌, ◌||◌, List, [], ◌∷◌, nat_eq, nat_le}

abbrev pub between : ℕ → ℕ → ℕ → Bool
between low high c = nat_le low c && nat_le c high

abbrev pub is_small : ℕ → Bool
is_small c = between 97 122 c

abbrev pub is_capital : ℕ → Bool
is_capital c = between 65 90 c

abbrev pub is_letter : ℕ → Bool
is_letter c = is_small c || is_capital c

abbrev pub is_digit : ℕ → Bool
is_digit c = between 48 57 c

-- a letter, a digit or `_`
abbrev pub is_word_byte : ℕ → Bool
is_word_byte c = is_letter c || (is_digit c || nat_eq c 95)

-- what may stand in a name behind its first letter: the same, and the quote
abbrev pub is_part : ℕ → Bool
is_part c = is_word_byte c || nat_eq c 39

-- space, tab, line feed, carriage return and form feed
abbrev pub is_white : ℕ → Bool
is_white c = nat_eq c 32 || (nat_eq c 9 || (nat_eq c 10 || (nat_eq c 13 || nat_eq c 12)))

abbrev pub every : (ℕ → Bool) → List ℕ → Bool
every p [] = true
every p (c ∷ s) = p c && every p s

-- whether a byte of this kind stands first
abbrev pub heads : (ℕ → Bool) → List ℕ → Bool
heads p [] = false
heads p (c ∷ s) = p c

-- whether the list is a byte of the first kind and then bytes of the second
abbrev pub shaped : (ℕ → Bool) → (ℕ → Bool) → List ℕ → Bool
shaped p q [] = false
shaped p q (c ∷ s) = p c && every q s

abbrev pub same : List ℕ → List ℕ → Bool
same [] [] = true
same [] (d ∷ t) = false
same (c ∷ s) [] = false
same (c ∷ s) (d ∷ t) = nat_eq c d && same s t

-- whether the list is one of these
abbrev pub is_any : List (List ℕ) → List ℕ → Bool
is_any [] s = false
is_any (w ∷ ws) s = same w s || is_any ws s

-- whether the list has one member, and this one
abbrev pub is_only : List ℕ → List (List ℕ) → Bool
is_only n [] = false
is_only n (m ∷ []) = same m n
is_only n (m ∷ k ∷ q) = false

-- whether the list is this one byte
abbrev pub is_byte : ℕ → List ℕ → Bool
is_byte c [] = false
is_byte c (d ∷ []) = nat_eq d c
is_byte c (d ∷ e ∷ s) = false

-- whether the path is the one name `!`
abbrev pub is_bang : List (List ℕ) → Bool
is_bang [] = false
is_bang (n ∷ []) = is_byte 33 n
is_bang (n ∷ m ∷ q) = false

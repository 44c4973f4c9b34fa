-- Bytes by the classes that the lexical rules name, and runs of them.
use Rattle.std.specs.Prelude.{ℕ, ◌+◌, ◌-◌, ◌*◌, Bool, true, false, List, [], ◌∷◌, codes, nat_le, nat_lt, ◌==◌, ◌&&◌, ◌||◌, if◌then◌else◌}
use Rattle.std.specs.List.{list_any}
use Rattle.sml_lex.specs.declared.class.Class.{Class}
use Rattle.sml_lex.specs.declared.class.Class.TheVariants.{White, Digit, Hex, Letter, Name, Symbol}

-- space, tab, line feed, vertical tab, form feed and carriage return
abbrev pub is_white : ℕ → Bool
is_white c = c == 32 || (nat_le 9 c && nat_le c 13)

abbrev pub is_control : ℕ → Bool
is_control c = nat_lt c 32 || c == 127

abbrev pub is_digit : ℕ → Bool
is_digit c = nat_le 48 c && nat_le c 57

abbrev pub is_hex : ℕ → Bool
is_hex c = is_digit c || (nat_le 65 c && nat_le c 70) || (nat_le 97 c && nat_le c 102)

abbrev pub is_letter : ℕ → Bool
is_letter c = (nat_le 65 c && nat_le c 90) || (nat_le 97 c && nat_le c 122)

-- a letter, a digit, a prime or an underscore
abbrev pub is_name_byte : ℕ → Bool
is_name_byte c = is_letter c || is_digit c || c == 39 || c == 95

-- one of the twenty symbols
abbrev pub is_symbol : ℕ → Bool
is_symbol c = list_any (λ symbol. c == symbol) (codes "!%&$#+-/:<=>?@\\~`^|*")

-- what a hexadecimal digit counts
abbrev pub digit_value : ℕ → ℕ
digit_value c = if nat_le c 57 then c - 48 else (if nat_le 97 c then c - 97 + 10 else c - 65 + 10)

abbrev pub has : Class → ℕ → Bool
has White = is_white
has Digit = is_digit
has Hex = is_hex
has Letter = is_letter
has Name = is_name_byte
has Symbol = is_symbol

-- each byte of the class has a value as a digit
abbrev pub IsDigits : Class → Type 0
IsDigits White = ⊥
IsDigits Digit = Unit {0}
IsDigits Hex = Unit {0}
IsDigits Letter = ⊥
IsDigits Name = ⊥
IsDigits Symbol = ⊥

-- whether there is a first byte, and it passes
abbrev pub first_is : (ℕ → Bool) → List ℕ → Bool
first_is test [] = false
first_is test (c ∷ s) = test c

-- whether all bytes pass
abbrev pub all_are : (ℕ → Bool) → List ℕ → Bool
all_are test [] = true
all_are test (c ∷ s) = test c && all_are test s

-- whether all bytes pass, and there is one
abbrev pub some_are : (ℕ → Bool) → List ℕ → Bool
some_are test [] = false
some_are test (c ∷ s) = test c && all_are test s

-- the number that these digits write
abbrev pub number_from : ℕ → ℕ → List ℕ → ℕ
number_from base sum [] = sum
number_from base sum (c ∷ s) = number_from base (sum * base + digit_value c) s

abbrev pub number : ℕ → List ℕ → ℕ
number base digits = number_from base 0 digits

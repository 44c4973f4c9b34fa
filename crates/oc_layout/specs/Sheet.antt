-- What is written so far, and what each token and each line break adds to it.
use Rattle.std.specs.Prelude.{ℕ, suc, ◌+◌, ◌/◌, ◌%◌, Bool, true, false, ◌||◌, List, [], ◌∷◌, ◌++◌, replicate, ℤ, pos, negsuc, nat_eq, decimal, if◌then◌else◌}
use Rattle.oc_ast.specs.declared.literal.OcLit.{OcLit}
use Rattle.oc_ast.specs.declared.literal.OcLit.TheVariants.{Int, Char, Text}
use Rattle.oc_rules.specs.Bytes.{between}
use Rattle.oc_rules.specs.Token.{Token, Name, Tyvar, Sign, Lit}

-- ---- how a token is spelled

-- `\ddd` in decimal
abbrev pub three_digits : ℕ → List ℕ
three_digits c = 92 ∷ (48 + c / 100) ∷ (48 + c / 10 % 10) ∷ (48 + c % 10) ∷ []

-- a byte between such quotes: the backslash and the quote behind a backslash, printable ASCII by itself, and the
-- others by a letter or by three digits
abbrev pub byte : ℕ → ℕ → List ℕ
byte quote c =
    if nat_eq c 92 || nat_eq c quote then 92 ∷ c ∷ [] else
    (if between 32 126 c then c ∷ [] else
    (if nat_eq c 10 then 92 ∷ 110 ∷ [] else
    (if nat_eq c 9 then 92 ∷ 116 ∷ [] else
    (if nat_eq c 13 then 92 ∷ 114 ∷ [] else
    (if nat_eq c 8 then 92 ∷ 98 ∷ [] else three_digits c)))))

abbrev pub all_bytes : ℕ → List ℕ → List ℕ
all_bytes quote [] = []
all_bytes quote (c ∷ s) = byte quote c ++ all_bytes quote s

abbrev pub quoted : ℕ → List ℕ → List ℕ
quoted quote s = (quote ∷ all_bytes quote s) ++ quote ∷ []

abbrev pub integer : ℤ → List ℕ
integer (pos n) = decimal n
integer (negsuc n) = ((40 ∷ 45 ∷ []) ++ decimal (suc n)) ++ 41 ∷ []

abbrev pub literal : OcLit → List ℕ
literal (Int z) = integer z
literal (Char c) = quoted 39 (c ∷ [])
literal (Text s) = quoted 34 s

abbrev pub spelled : Token → List ℕ
spelled (Name n) = n
spelled (Tyvar v) = v
spelled (Sign s) = s
spelled (Lit l) = literal l

-- ---- where no space stands

-- behind `(`, `[` and `{`
abbrev pub opens_byte : ℕ → Bool
opens_byte c = nat_eq c 40 || (nat_eq c 91 || nat_eq c 123)

-- before `)`, `]`, `}`, `,` and `;`
abbrev pub leans_byte : ℕ → Bool
leans_byte c = nat_eq c 41 || (nat_eq c 93 || (nat_eq c 125 || (nat_eq c 44 || nat_eq c 59)))

abbrev pub one_byte : (ℕ → Bool) → List ℕ → Bool
one_byte p [] = false
one_byte p (c ∷ []) = p c
one_byte p (c ∷ d ∷ s) = false

abbrev pub opens : Token → Bool
opens (Name n) = false
opens (Tyvar v) = false
opens (Sign s) = one_byte opens_byte s
opens (Lit l) = false

abbrev pub leans : Token → Bool
leans (Name n) = false
leans (Tyvar v) = false
leans (Sign s) = one_byte leans_byte s
leans (Lit l) = false

-- ---- what is written so far

pub record Sheet : Type 0 where
  -- all bytes so far
  pub written : List ℕ
  -- whether the next token stands without a space before it
  pub tight : Bool
  -- the indentation of the line at hand
  pub line : ℕ
  -- the indentation of the innermost item round what comes next
  pub item : ℕ

abbrev pub gap : Bool → List ℕ
gap true = []
gap false = 32 ∷ []

abbrev pub added : List ℕ → Bool → Bool → Sheet → Sheet
added bytes leaning opening s = record s { written = (s.written ++ gap (s.tight || leaning)) ++ bytes; tight = opening }

-- one more token
abbrev pub noted : Token → Sheet → Sheet
noted t = added (spelled t) (leans t) (opens t)

-- a new line with this indentation, and the indentation of the item from here on
abbrev pub started : ℕ → ℕ → Sheet → Sheet
started n m s = record { written = (s.written ++ 10 ∷ []) ++ replicate n 32; tight = true; line = n; item = m }

-- the empty sheet
abbrev pub blank : Sheet
blank = record { written = []; tight = true; line = 0; item = 0 }

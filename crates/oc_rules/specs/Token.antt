-- The tokens of a text, and which runs of bytes are which token (the OCaml manual, section 11.1).
use Rattle.std.specs.Prelude.{◌≡◌, ℕ, ◌+◌, ◌*◌, ◌-◌, ◌<◌, ◌⊎◌, Bool, false, not, ◌&&◌, List, [], ◌∷◌, ◌++◌, Option, Some, None, ℤ, pos, neg_ℤ, IsTrue, nat_eq, codes, if◌then◌else◌}
use Rattle.std.specs.Str.Parse.{digits_value}
use Rattle.oc_ast.specs.declared.literal.OcLit.{OcLit}
use Rattle.oc_ast.specs.declared.literal.OcLit.TheVariants.{Int, Char, Text}
use Rattle.oc_rules.specs.Bytes.{between, is_small, is_letter, is_digit, is_word_byte, is_part, every, shaped, is_any}

pub data Token : Type 0 where
  -- a letter and then letters, digits, `_` and `'`; the words of OCaml are such names
  Name : List ℕ → Token
  -- a type variable, with its quote
  Tyvar : List ℕ → Token
  -- a mark or an operator
  Sign : List ℕ → Token
  -- a constant, by its value
  Lit : OcLit → Token

-- the marks and operators
abbrev pub signs : List (List ℕ)
signs = codes "(" ∷ codes ")" ∷ codes "[" ∷ codes "]" ∷ codes "{" ∷ codes "}" ∷ codes "," ∷ codes ";" ∷ codes "." ∷ codes ":" ∷ codes "=" ∷ codes "->" ∷ codes "|" ∷ codes "_" ∷ codes "!" ∷ codes "*" ∷ codes "+" ∷ codes "-" ∷ codes "/" ∷ codes "<" ∷ codes "<=" ∷ codes ">" ∷ codes ">=" ∷ codes "==" ∷ codes ":=" ∷ codes "^" ∷ codes "&&" ∷ codes "||" ∷ codes "::" ∷ []

abbrev pub is_name : List ℕ → Bool
is_name = shaped is_letter is_part

-- `'`, a small letter, and then letters, digits and `_`
abbrev pub is_tyvar : List ℕ → Bool
is_tyvar [] = false
is_tyvar (c ∷ s) = nat_eq c 39 && shaped is_small is_word_byte s

-- one digit or more
abbrev pub is_number : List ℕ → Bool
is_number = shaped is_digit is_digit

-- a decimal integer, or `(-`, digits and `)`
abbrev pub IntRun : ℤ → List ℕ → Type 0
IntRun z run = (IsTrue (is_number run) × (z ≡ pos (digits_value 10 run)))
    ⊎ ((ds : List ℕ) × (run ≡ 40 ∷ 45 ∷ (ds ++ 41 ∷ [])) × IsTrue (is_number ds) × (z ≡ neg_ℤ (pos (digits_value 10 ds))))

-- the byte of a letter escape, by the byte behind the backslash; `\'` in characters alone
abbrev pub escaped : ℕ → ℕ → Option ℕ
escaped quote e =
    if nat_eq e 92 then Some 92 else
    (if nat_eq e 34 then Some 34 else
    (if nat_eq e 39 && nat_eq quote 39 then Some 39 else
    (if nat_eq e 110 then Some 10 else
    (if nat_eq e 116 then Some 9 else
    (if nat_eq e 114 then Some 13 else
    (if nat_eq e 98 then Some 8 else None))))))

-- bytes that stand for themselves: 32 to 126 but the backslash and the quote that closes
abbrev pub is_plain : ℕ → ℕ → Bool
is_plain quote c = between 32 126 c && (not (nat_eq c 92) && not (nat_eq c quote))

-- the run `\ddd` that writes this byte in decimal
pub record Decimal (c : ℕ) (run : List ℕ) : Type 0 where
  pub hundreds : ℕ
  pub tens : ℕ
  pub ones : ℕ
  pub digits : IsTrue (every is_digit (hundreds ∷ tens ∷ ones ∷ []))
  pub run_is : run ≡ 92 ∷ hundreds ∷ tens ∷ ones ∷ []
  pub value_is : c ≡ ((hundreds - 48) * 10 + (tens - 48)) * 10 + (ones - 48)
  pub is_byte : c < 256

-- the run writes the byte c between such quotes
abbrev pub Writes : ℕ → ℕ → List ℕ → Type 0
Writes quote c run = (IsTrue (is_plain quote c) × (run ≡ c ∷ []))
    ⊎ (((e : ℕ) × (escaped quote e ≡ Some c) × (run ≡ 92 ∷ e ∷ [])) ⊎ Decimal c run)

-- the run writes these bytes one after another
abbrev pub WritesAll : ℕ → List ℕ → List ℕ → Type 0
WritesAll quote [] run = run ≡ []
WritesAll quote (c ∷ s) run = (front : List ℕ) × (back : List ℕ) × (run ≡ front ++ back) × Writes quote c front × WritesAll quote s back

-- a run between two quotes that writes these bytes
abbrev pub Quoted : ℕ → List ℕ → List ℕ → Type 0
Quoted quote s run = (body : List ℕ) × (run ≡ quote ∷ (body ++ quote ∷ [])) × WritesAll quote s body

abbrev pub IsLiteral : OcLit → List ℕ → Type 0
IsLiteral (Int z) run = IntRun z run
IsLiteral (Char c) run = Quoted 39 (c ∷ []) run
IsLiteral (Text s) run = Quoted 34 s run

-- the run is this token
abbrev pub IsToken : Token → List ℕ → Type 0
IsToken (Name n) run = (run ≡ n) × IsTrue (is_name n)
IsToken (Tyvar v) run = (run ≡ v) × IsTrue (is_tyvar v)
IsToken (Sign s) run = (run ≡ s) × IsTrue (is_any signs s)
IsToken (Lit l) run = IsLiteral l run

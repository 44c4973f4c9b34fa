-- The spelling of a token is a run of it.
use Rattle.std.proofs.Common.{◌≡◌, ℕ, suc, ◌+◌, ◌/◌, ◌%◌, ◌^◌, ◌<◌, ◌⊎◌, inl, inr, Bool, true, false, not, ◌&&◌, ◌||◌, List, [], ◌∷◌, length, Some, refl, sym, ap, subst, ◌∙◌, arith}
use Rattle.std.specs.Prelude.{nat_eq, nat_le, nat_lt, ℤ, pos, negsuc, neg_ℤ, if◌then◌else◌, decimal}
use Rattle.std.specs.Str.Parse.{digits_value}
use Rattle.std.proofs.lemmas.Bool.{eqb-true, eq-eqb, leb-true, le-leb}
use Rattle.std.proofs.lemmas.Str.Parse.{IsDigitsTest, IsNumeralModel, numerals_by_value}
use Rattle.std.proofs.lemmas.Fmt.{digits_decimal, digits_value-decimal, decimal_nonempty}
use Rattle.oc_ast.specs.declared.literal.OcLit.{OcLit}
use Rattle.oc_ast.specs.declared.literal.OcLit.TheVariants.{Int, Char, Text}
use Rattle.oc_rules.specs.Bytes.{between, is_digit, every}
use Rattle.oc_rules.specs.Token.{Token, Name, Tyvar, Sign, Lit, signs, is_name, is_tyvar, is_number, escaped, Decimal, Writes, WritesAll, IsToken}
use Rattle.oc_rules.specs.Bytes.{is_any}
use Rattle.oc_rules.specs.Allowed.{Literal, InRange}
use Rattle.oc_rules.proofs.Tests.{and_true, and_of, or_false, not_of, between_is}
use Rattle.oc_layout.specs.Sheet.{three_digits, byte, all_bytes, integer, literal, spelled}

-- ---- integers

abbrev digits_told : IsDigitsTest (λ ds. every is_digit ds ≡ true)
digits_told = record {
  empty = refl;
  parts = λ c cs e. let h = and_true (is_digit c) (every is_digit cs) e in let k = between_is 48 57 c h.0 in ((k.0, k.1), h.1);
  more = λ c cs k e. and_of (is_digit c) (every is_digit cs) (and_of (nat_le 48 c) (nat_le c 57) (le-leb 48 c k.0) (le-leb c 57 k.1)) e;
}

own : IsNumeralModel (λ ds. every is_digit ds ≡ true) (digits_value 10)
own = numerals_by_value (λ ds. every is_digit ds ≡ true) digits_told

number_of : (ds : List ℕ) → 0 < length ds → every is_digit ds ≡ true → is_number ds ≡ true
number_of [] n e = absurd (omega (arith, n))
number_of (c ∷ s) n e = e

pub decimal_is : (n : ℕ) → n < 2 ^ 64 → is_number (decimal n) ≡ true
decimal_is n h = number_of (decimal n) (decimal_nonempty n h) (digits_decimal own n h)

negative : (ds : List ℕ) (n : ℕ) → digits_value 10 ds ≡ suc n → negsuc n ≡ neg_ℤ (pos (digits_value 10 ds))
negative ds n e = subst (λ (k : ℕ). negsuc n ≡ neg_ℤ (pos k)) (sym e) refl

int_is : (z : ℤ) → InRange z → IsToken (Lit (Int z)) (integer z)
int_is (pos n) h = let small : n < 2 ^ 64 = omega (arith, h) in inl (decimal_is n small, ap pos (sym (digits_value-decimal own n small)))
int_is (negsuc n) h = let small : suc n < 2 ^ 64 = omega (arith, h) in inr (decimal (suc n), refl, decimal_is (suc n) small, negative (decimal (suc n)) n (digits_value-decimal own (suc n) small))

-- ---- what stands between quotes

self : (n : ℕ) → nat_eq n n ≡ true
self n = eq-eqb n n refl

escapes_self : (q c : ℕ) → (q ≡ 39) ⊎ (q ≡ 34) → (nat_eq c 92 || nat_eq c q) ≡ true → escaped q c ≡ Some c
escapes_self q c quote e = go (nat_eq c 92) refl quote
  where
    by_quote : (q : ℕ) → (q ≡ 39) ⊎ (q ≡ 34) → c ≡ q → escaped q c ≡ Some c
    by_quote q (inl f) s = let k : c ≡ 39 = s ∙ f in rw k (rw f refl)
    by_quote q (inr f) s = let k : c ≡ 34 = s ∙ f in rw k refl

    go : (b : Bool) → nat_eq c 92 ≡ b → (q ≡ 39) ⊎ (q ≡ 34) → escaped q c ≡ Some c
    go true f k = let s : c ≡ 92 = eqb-true c 92 f in rw s refl
    go false f k = by_quote q k (eqb-true c q (sym (ap (λ (b : Bool). b || nat_eq c q) f) ∙ e))

decimal_byte : (c : ℕ) → c < 256 → Decimal c (three_digits c)
decimal_byte c h = record {
  hundreds = 48 + c / 100;
  tens = 48 + c / 10 % 10;
  ones = 48 + c % 10;
  digits = and_of (is_digit (48 + c / 100)) (every is_digit ((48 + c / 10 % 10) ∷ (48 + c % 10) ∷ [])) (digit (c / 100) (omega (arith, h))) (and_of (is_digit (48 + c / 10 % 10)) (every is_digit ((48 + c % 10) ∷ [])) (digit (c / 10 % 10) (omega arith)) (and_of (is_digit (48 + c % 10)) true (digit (c % 10) (omega arith)) refl));
  run_is = refl;
  value_is = omega (arith, h);
  is_byte = h;
}
  where
    digit : (d : ℕ) → d < 10 → is_digit (48 + d) ≡ true
    digit d k = and_of (nat_le 48 (48 + d)) (nat_le (48 + d) 57) (le-leb 48 (48 + d) (omega arith)) (le-leb (48 + d) 57 (omega (arith, k)))

byte_is : (q c : ℕ) → (q ≡ 39) ⊎ (q ≡ 34) → c < 256 → Writes q c (byte q c)
byte_is q c quote h = special (nat_eq c 92 || nat_eq c q) refl
  where
    letters : (a b d e : Bool) → nat_eq c 10 ≡ a → nat_eq c 9 ≡ b → nat_eq c 13 ≡ d → nat_eq c 8 ≡ e
        → Writes q c (if a then 92 ∷ 110 ∷ [] else (if b then 92 ∷ 116 ∷ [] else (if d then 92 ∷ 114 ∷ [] else (if e then 92 ∷ 98 ∷ [] else three_digits c))))
    letters true b d e ea eb ed ee = inr (inl (110, ap Some (sym (eqb-true c 10 ea)), refl))
    letters false true d e ea eb ed ee = inr (inl (116, ap Some (sym (eqb-true c 9 eb)), refl))
    letters false false true e ea eb ed ee = inr (inl (114, ap Some (sym (eqb-true c 13 ed)), refl))
    letters false false false true ea eb ed ee = inr (inl (98, ap Some (sym (eqb-true c 8 ee)), refl))
    letters false false false false ea eb ed ee = inr (inr (decimal_byte c h))

    printable : (b : Bool) → between 32 126 c ≡ b → (nat_eq c 92 || nat_eq c q) ≡ false
        → Writes q c (if b then c ∷ [] else (if nat_eq c 10 then 92 ∷ 110 ∷ [] else (if nat_eq c 9 then 92 ∷ 116 ∷ [] else (if nat_eq c 13 then 92 ∷ 114 ∷ [] else (if nat_eq c 8 then 92 ∷ 98 ∷ [] else three_digits c)))))
    printable true e n = let k = or_false (nat_eq c 92) (nat_eq c q) n in inl (and_of (between 32 126 c) (not (nat_eq c 92) && not (nat_eq c q)) e (and_of (not (nat_eq c 92)) (not (nat_eq c q)) (not_of (nat_eq c 92) k.0) (not_of (nat_eq c q) k.1)), refl)
    printable false e n = letters (nat_eq c 10) (nat_eq c 9) (nat_eq c 13) (nat_eq c 8) refl refl refl refl

    special : (b : Bool) → (nat_eq c 92 || nat_eq c q) ≡ b
        → Writes q c (if b then 92 ∷ c ∷ [] else (if between 32 126 c then c ∷ [] else (if nat_eq c 10 then 92 ∷ 110 ∷ [] else (if nat_eq c 9 then 92 ∷ 116 ∷ [] else (if nat_eq c 13 then 92 ∷ 114 ∷ [] else (if nat_eq c 8 then 92 ∷ 98 ∷ [] else three_digits c))))))
    special true e = inr (inl (c, escapes_self q c quote e, refl))
    special false e = printable (between 32 126 c) refl e

bytes_are : (q : ℕ) → (q ≡ 39) ⊎ (q ≡ 34) → (s : List ℕ) → every (λ c. nat_lt c 256) s ≡ true → WritesAll q s (all_bytes q s)
bytes_are q quote [] e = refl
bytes_are q quote (c ∷ s) e =
    let h = and_true (nat_lt c 256) (every (λ c. nat_lt c 256) s) e in
    let k : c < 256 = leb-true (suc c) 256 h.0 in
    (byte q c, all_bytes q s, refl, byte_is q c quote k, bytes_are q quote s h.1)

-- ---- tokens

lit_is : (l : OcLit) → Literal l → IsToken (Lit l) (literal l)
lit_is (Int z) h = int_is z h
lit_is (Char c) h = (all_bytes 39 (c ∷ []), refl, bytes_are 39 (inl refl) (c ∷ []) (and_of (nat_lt c 256) true (le-leb (suc c) 256 h) refl))
lit_is (Text s) h = (all_bytes 34 s, refl, bytes_are 34 (inr refl) s h)

-- tokens that a text may have
abbrev pub Good : Token → Type 0
Good (Name n) = is_name n ≡ true
Good (Tyvar v) = is_tyvar v ≡ true
Good (Sign s) = is_any signs s ≡ true
Good (Lit l) = Literal l

pub spelled_is : (t : Token) → Good t → IsToken t (spelled t)
spelled_is (Name n) h = (refl, h)
spelled_is (Tyvar v) h = (refl, h)
spelled_is (Sign s) h = (refl, h)
spelled_is (Lit l) h = lit_is l h

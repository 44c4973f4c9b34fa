-- What kind of token a run is, told by its first byte.
use Rattle.std.proofs.Common.{◌≡◌, ℕ, inl, inr, Bool, true, false, not, ◌&&◌, ◌||◌, List, [], ◌∷◌, ◌++◌, refl, sym, ap, subst, ◌∙◌, arith}
use Rattle.std.specs.Prelude.{nat_eq, if◌then◌else◌}
use Rattle.std.proofs.lemmas.Bool.{eqb-true, eq-eqb}
use Rattle.oc_ast.specs.declared.literal.OcLit.{OcLit}
use Rattle.oc_ast.specs.declared.literal.OcLit.TheVariants.{Int, Char, Text}
use Rattle.oc_rules.specs.Bytes.{is_small, is_capital, is_letter, is_digit, is_word_byte, is_part, every, shaped, is_any}
use Rattle.oc_rules.specs.Token.{Token, Name, Tyvar, Sign, Lit, signs, is_name, is_tyvar, is_number, Quoted, IsToken}
use Rattle.oc_rules.proofs.Tests.{never, both_ways, and_true, and_of, between_is, letter_part, any_is}

-- 0 a letter, 1 a digit, 2 a quote, 3 a double quote, 4 another byte
abbrev pub class_by : Bool → ℕ → ℕ
class_by letter c = if letter then 0 else (if is_digit c then 1 else (if nat_eq c 39 then 2 else (if nat_eq c 34 then 3 else 4)))

abbrev pub class : ℕ → ℕ
class c = class_by (is_letter c) c

abbrev pub first_class : List ℕ → ℕ
first_class [] = 9
first_class (c ∷ s) = class c

pub letter_class : (c : ℕ) → is_letter c ≡ true → class c ≡ 0
letter_class c e = rw e refl

pub digit_class : (c : ℕ) → is_digit c ≡ true → class c ≡ 1
digit_class c e = go (is_letter c) refl
  where
    go : (b : Bool) → is_letter c ≡ b → class_by b c ≡ 1
    go true y = absurd (clash (is_small c) refl y)
      where
        clash : (b : Bool) → is_small c ≡ b → (b || is_capital c) ≡ true → ⊥
        clash true z w = let h = between_is 97 122 c z in let k = between_is 48 57 c e in let a = h.0 in let d = k.1 in omega (arith, a, d)
        clash false z w = let h = between_is 65 90 c w in let k = between_is 48 57 c e in let a = h.0 in let d = k.1 in omega (arith, a, d)
    go false y = rw e refl

-- the second byte of a sign of two
abbrev pub is_second : ℕ → Bool
is_second c = nat_eq c 62 || (nat_eq c 61 || (nat_eq c 58 || (nat_eq c 124 || nat_eq c 38)))

-- a sign has one byte or two, no letter, digit or quote first, and `(` has no second
abbrev pub fits : List ℕ → Bool
fits [] = false
fits (a ∷ []) = nat_eq (class a) 4
fits (a ∷ b ∷ []) = nat_eq (class a) 4 && (not (nat_eq a 40) && is_second b)
fits (a ∷ b ∷ c ∷ s) = false

pub signs_fit : (s : List ℕ) → is_any signs s ≡ true → fits s ≡ true
signs_fit s e = any_is fits signs s refl e

pub data Kind (run : List ℕ) : Type 0 where
  KName : (c : ℕ) (s : List ℕ) → run ≡ c ∷ s → is_letter c ≡ true → every is_part run ≡ true → Kind run
  KDec : (c : ℕ) (s : List ℕ) → run ≡ c ∷ s → is_digit c ≡ true → every is_digit run ≡ true → Kind run
  KVar : (x : ℕ) (more : List ℕ) → run ≡ 39 ∷ x ∷ more → is_small x ≡ true → every is_word_byte more ≡ true → Kind run
  KChar : (c : ℕ) → Quoted 39 (c ∷ []) run → Kind run
  KText : (s : List ℕ) → Quoted 34 s run → Kind run
  KSign : fits run ≡ true → Kind run
  KNeg : (ds : List ℕ) → run ≡ 40 ∷ 45 ∷ (ds ++ 41 ∷ []) → every is_digit ds ≡ true → Kind run

abbrev pub tag : {run : List ℕ} → Kind run → ℕ
tag (KName c s e l a) = 0
tag (KDec c s e l a) = 1
tag (KVar x more e l a) = 2
tag (KChar c q) = 2
tag (KText s q) = 3
tag (KSign e) = 4
tag (KNeg ds e a) = 4

pub shaped_is : (p q : ℕ → Bool) (s : List ℕ) → shaped p q s ≡ true → (c : ℕ) × (r : List ℕ) × (s ≡ c ∷ r) × (p c ≡ true) × (every q r ≡ true)
shaped_is p q [] e = absurd cc
shaped_is p q (c ∷ r) e = let h = and_true (p c) (every q r) e in (c, r, refl, h.0, h.1)

pub number_digits : (s : List ℕ) → is_number s ≡ true → every is_digit s ≡ true
number_digits [] e = absurd cc
number_digits (c ∷ r) e = e

abbrev pub kind_of_lit : (l : OcLit) (run : List ℕ) → IsToken (Lit l) run → Kind run
kind_of_lit (Int z) run (inl (n, v)) = let h = shaped_is is_digit is_digit run n in KDec h.0 h.1 h.2 h.3 (number_digits run n)
kind_of_lit (Int z) run (inr (ds, e, n, v)) = KNeg ds e (number_digits ds n)
kind_of_lit (Char c) run q = KChar c q
kind_of_lit (Text s) run q = KText s q

abbrev pub var_kind : (run : List ℕ) → is_tyvar run ≡ true → Kind run
var_kind [] f = absurd (never f)
var_kind (c ∷ s) f =
    let h = and_true (nat_eq c 39) (shaped is_small is_word_byte s) f in
    let k = shaped_is is_small is_word_byte s h.1 in
    KVar k.0 k.1 (ap (λ (z : ℕ). z ∷ s) (eqb-true c 39 h.0) ∙ ap (λ (z : List ℕ). 39 ∷ z) k.2) k.3 k.4

abbrev pub kind : (t : Token) (run : List ℕ) → IsToken t run → Kind run
kind (Name n) run (e, p) =
    let q : is_name run ≡ true = subst (λ (z : List ℕ). is_name z ≡ true) (sym e) p in
    let h = shaped_is is_letter is_part run q in
    KName h.0 h.1 h.2 h.3 (subst (λ (z : List ℕ). every is_part z ≡ true) (sym h.2) (and_of (is_part h.0) (every is_part h.1) (letter_part h.0 h.3) h.4))
kind (Tyvar v) run (e, p) = var_kind run (subst (λ (z : List ℕ). is_tyvar z ≡ true) (sym e) p)
kind (Sign s) run (e, p) = KSign (signs_fit run (subst (λ (z : List ℕ). is_any signs z ≡ true) (sym e) p))
kind (Lit l) run p = kind_of_lit l run p

pub sign_class : (run : List ℕ) → fits run ≡ true → first_class run ≡ 4
sign_class [] e = absurd cc
sign_class (a ∷ []) e = eqb-true (class a) 4 e
sign_class (a ∷ b ∷ []) e = eqb-true (class a) 4 (and_true (nat_eq (class a) 4) (not (nat_eq a 40) && is_second b) e).0
sign_class (a ∷ b ∷ c ∷ s) e = absurd cc

-- the first byte tells the kind
pub tag_class : {run : List ℕ} (k : Kind run) → first_class run ≡ tag k
tag_class (KName c s e l a) = ap first_class e ∙ letter_class c l
tag_class (KDec c s e l a) = ap first_class e ∙ digit_class c l
tag_class (KVar x more e l a) = ap first_class e
tag_class (KChar c (body, e, w)) = ap first_class e
tag_class (KText s (body, e, w)) = ap first_class e
tag_class {run} (KSign e) = sign_class run e
tag_class (KNeg ds e a) = ap first_class e

pub not_empty : {run : List ℕ} (k : Kind run) → run ≡ [] → ⊥
not_empty (KName c s e l a) n = absurd cc
not_empty (KDec c s e l a) n = absurd cc
not_empty (KVar x more e l a) n = absurd cc
not_empty (KChar c (body, e, w)) n = absurd cc
not_empty (KText s (body, e, w)) n = absurd cc
not_empty (KSign e) n = both_ways false (subst (λ (z : List ℕ). fits z ≡ true) n e) refl
not_empty (KNeg ds e a) n = absurd cc

-- two runs at one place are of one kind
pub one_tag : {run other : List ℕ} (rest behind : List ℕ) → other ++ behind ≡ run ++ rest → (k : Kind run) → (j : Kind other) → tag k ≡ tag j
one_tag {run} {other} rest behind e k j = go run other e (not_empty k) (not_empty j) (tag_class k) (tag_class j)
  where
    go : (r o : List ℕ) → o ++ behind ≡ r ++ rest → (r ≡ [] → ⊥) → (o ≡ [] → ⊥) → first_class r ≡ tag k → first_class o ≡ tag j → tag k ≡ tag j
    go [] o f a b c d = absurd (a refl)
    go (x ∷ r) [] f a b c d = absurd (b refl)
    go (x ∷ r) (y ∷ o) f a b c d = let s : y ≡ x = cc in sym c ∙ (ap class (sym s) ∙ d)

-- the classes of first bytes that a token may have
abbrev pub classes : Token → ℕ → Bool
classes (Name n) k = nat_eq k 0
classes (Tyvar v) k = nat_eq k 2
classes (Sign s) k = nat_eq k 4
classes (Lit (Int z)) k = nat_eq k 1 || nat_eq k 4
classes (Lit (Char c)) k = nat_eq k 2
classes (Lit (Text s)) k = nat_eq k 3

tested : {run : List ℕ} (k : Kind run) (n : ℕ) → tag k ≡ n → nat_eq (first_class run) n ≡ true
tested {run} k n e = eq-eqb (first_class run) n (tag_class k ∙ e)

var_class : (run : List ℕ) → is_tyvar run ≡ true → nat_eq (first_class run) 2 ≡ true
var_class [] f = absurd (never f)
var_class (c ∷ s) f = ap (λ (z : ℕ). nat_eq (class z) 2) (eqb-true c 39 (and_true (nat_eq c 39) (shaped is_small is_word_byte s) f).0)

pub in_class : (t : Token) (run : List ℕ) → IsToken t run → classes t (first_class run) ≡ true
in_class (Name n) run p = tested (kind (Name n) run p) 0 refl
in_class (Tyvar v) run (e, p) = var_class run (subst (λ (z : List ℕ). is_tyvar z ≡ true) (sym e) p)
in_class (Sign s) run p = tested (kind (Sign s) run p) 4 refl
in_class (Lit (Int z)) run (inl p) = ap (λ (b : Bool). b || nat_eq (first_class run) 4) (tested (kind (Lit (Int z)) run (inl p)) 1 refl)
in_class (Lit (Int z)) run (inr p) = rw (tag_class (kind (Lit (Int z)) run (inr p))) refl
in_class (Lit (Char c)) run p = tested (kind (Lit (Char c)) run p) 2 refl
in_class (Lit (Text s)) run p = tested (kind (Lit (Text s)) run p) 3 refl

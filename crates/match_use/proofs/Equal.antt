-- Alike constructors and literals are equal, and two of one type are alike or not.
use Rattle.std.proofs.Common.{◌≡◌, ℕ, suc, List, Bool, true, false, ◌&&◌, ◌||◌, not, eqb, refl, ap, ap₂, sym, ◌∙◌, arith}
use Rattle.std.specs.Ordering.{int_eq}
use Rattle.std.specs.Str.{bytes_eq}
use Rattle.std.specs.Cmp.Lexicographic.{pointwise, pointwise_decides}
use Rattle.std.proofs.lemmas.Bool.{and_parts, and_from, eqb-true, eq-eqb, ne_eqb}
use Rattle.std.proofs.lemmas.Bool.Decides.{Decides-int_eq}
use Rattle.std.proofs.lemmas.Slice.Eq.{bytes_eq-Decides}
use Rattle.tl_text.specs.declared.lit.Lit.{Lit}
use Rattle.tl_text.specs.declared.lit.Lit.TheVariants as lit
use Rattle.sml_static.specs.Shapes.{Key, Of, Exn, is_same_key, is_other_key, is_same_literal, is_other_literal}

paths-Decides : (p q : List (List ℕ)) → (pointwise bytes_eq p q ≡ true → p ≡ q) × (p ≡ q → pointwise bytes_eq p q ≡ true)
paths-Decides = pointwise_decides bytes_eq-Decides

pub same_key-true : (k j : Key) → is_same_key k j ≡ true → k ≡ j
same_key-true (Of d n) (Of e m) h = let a = and_parts (eqb d e) (bytes_eq n m) h in ap₂ Of (eqb-true d e a.0) ((bytes_eq-Decides n m).0 a.1)
same_key-true (Of d n) (Exn q) h = cc
same_key-true (Exn p) (Of e m) h = cc
same_key-true (Exn p) (Exn q) h = ap Exn ((paths-Decides p q).0 h)

pub same_key-refl : (k : Key) → is_same_key k k ≡ true
same_key-refl (Of d n) = and_from (eqb d d) (bytes_eq n n) (eq-eqb d d refl) ((bytes_eq-Decides n n).1 refl)
same_key-refl (Exn p) = (paths-Decides p p).1 refl

pub same_literal-true : (l m : Lit) → is_same_literal l m ≡ true → l ≡ m
same_literal-true (lit.Int x) (lit.Int y) h = ap lit.Int ((Decides-int_eq x y).0 h)
same_literal-true (lit.Int x) (lit.Word y) h = cc
same_literal-true (lit.Int x) (lit.Char y) h = cc
same_literal-true (lit.Int x) (lit.Text y) h = cc
same_literal-true (lit.Word x) (lit.Int y) h = cc
same_literal-true (lit.Word x) (lit.Word y) h = ap lit.Word (eqb-true x y h)
same_literal-true (lit.Word x) (lit.Char y) h = cc
same_literal-true (lit.Word x) (lit.Text y) h = cc
same_literal-true (lit.Char x) (lit.Int y) h = cc
same_literal-true (lit.Char x) (lit.Word y) h = cc
same_literal-true (lit.Char x) (lit.Char y) h = ap lit.Char (eqb-true x y h)
same_literal-true (lit.Char x) (lit.Text y) h = cc
same_literal-true (lit.Text x) (lit.Int y) h = cc
same_literal-true (lit.Text x) (lit.Word y) h = cc
same_literal-true (lit.Text x) (lit.Char y) h = cc
same_literal-true (lit.Text x) (lit.Text y) h = ap lit.Text ((bytes_eq-Decides x y).0 h)

pub same_literal-refl : (l : Lit) → is_same_literal l l ≡ true
same_literal-refl (lit.Int x) = (Decides-int_eq x x).1 refl
same_literal-refl (lit.Word x) = eq-eqb x x refl
same_literal-refl (lit.Char x) = eq-eqb x x refl
same_literal-refl (lit.Text x) = (bytes_eq-Decides x x).1 refl

-- the type of a literal, as a number
abbrev pub literal_type : Lit → ℕ
literal_type (lit.Int x) = 0
literal_type (lit.Word x) = 1
literal_type (lit.Char x) = 2
literal_type (lit.Text x) = 3

-- what a constructor is of, as a number
abbrev pub key_type : Key → ℕ
key_type (Exn p) = 0
key_type (Of d n) = suc d

or_not : (b : Bool) → (b || not b) ≡ true
or_not true = refl
or_not false = refl

-- two literals of one type are alike or not, and others are neither
pub literal_types : (l m : Lit) → (is_same_literal l m || is_other_literal l m) ≡ eqb (literal_type l) (literal_type m)
literal_types (lit.Int x) (lit.Int y) = or_not (int_eq x y)
literal_types (lit.Int x) (lit.Word y) = refl
literal_types (lit.Int x) (lit.Char y) = refl
literal_types (lit.Int x) (lit.Text y) = refl
literal_types (lit.Word x) (lit.Int y) = refl
literal_types (lit.Word x) (lit.Word y) = or_not (eqb x y)
literal_types (lit.Word x) (lit.Char y) = refl
literal_types (lit.Word x) (lit.Text y) = refl
literal_types (lit.Char x) (lit.Int y) = refl
literal_types (lit.Char x) (lit.Word y) = refl
literal_types (lit.Char x) (lit.Char y) = or_not (eqb x y)
literal_types (lit.Char x) (lit.Text y) = refl
literal_types (lit.Text x) (lit.Int y) = refl
literal_types (lit.Text x) (lit.Word y) = refl
literal_types (lit.Text x) (lit.Char y) = refl
literal_types (lit.Text x) (lit.Text y) = or_not (bytes_eq x y)

parts_or : (a b : Bool) → ((a && b) || (a && not b)) ≡ a
parts_or true b = or_not b
parts_or false b = refl

suc_eqb : (a b : ℕ) → eqb a b ≡ eqb (suc a) (suc b)
suc_eqb a b = grind (arith)

pub key_types : (k j : Key) → (is_same_key k j || is_other_key k j) ≡ eqb (key_type k) (key_type j)
key_types (Of d n) (Of e m) = parts_or (eqb d e) (bytes_eq n m) ∙ suc_eqb d e
key_types (Of d n) (Exn q) = sym (ne_eqb (suc d) 0 (λ e. omega arith))
key_types (Exn p) (Of e m) = sym (ne_eqb 0 (suc e) (λ h. omega arith))
key_types (Exn p) (Exn q) = or_not (pointwise bytes_eq p q)

pub other_key-irrefl : (k : Key) → is_other_key k k ≡ false
other_key-irrefl (Of d n) = ap (λ b. (eqb d d) && not b) ((bytes_eq-Decides n n).1 refl) ∙ and_false (eqb d d)
  where
    and_false : (b : Bool) → (b && false) ≡ false
    and_false true = refl
    and_false false = refl
other_key-irrefl (Exn p) = ap not ((paths-Decides p p).1 refl)

pub other_literal-irrefl : (l : Lit) → is_other_literal l l ≡ false
other_literal-irrefl (lit.Int x) = ap not ((Decides-int_eq x x).1 refl)
other_literal-irrefl (lit.Word x) = ap not (eq-eqb x x refl)
other_literal-irrefl (lit.Char x) = ap not (eq-eqb x x refl)
other_literal-irrefl (lit.Text x) = ap not ((bytes_eq-Decides x x).1 refl)

-- The names of units of different sources differ.
use Rattle.std.proofs.Common.{◌≡◌, ◌≢◌, ℕ, ◌<◌, ◌^◌, List, [], ◌∷◌, ◌++◌, Bool, true, false, refl, sym, arith, subst}
use Rattle.std.specs.Char.{digit_value}
use Rattle.std.specs.Fmt.{decimal}
use Rattle.std.specs.Str.{bytes_eq}
use Rattle.std.specs.Str.Parse.{AllDigits}
use Rattle.std.proofs.lemmas.Fmt.{decimal_injective, decimal_is_IsNumeral}
use Rattle.std.proofs.lemmas.Slice.Eq.{bytes_eq-Decides}
use Rattle.tl_session.specs.Written.{unit_name}

no_digit : digit_value 95 < 10 → ⊥
no_digit h = omega arith

-- two rows of digits, each followed by _, that begin alike are the same digits
same_digits : (xs ys a b : List ℕ) → AllDigits 10 xs → AllDigits 10 ys → xs ++ (95 ∷ a) ≡ ys ++ (95 ∷ b) → xs ≡ ys
same_digits [] [] a b dx dy e = refl
same_digits [] (y ∷ ys) a b dx dy e =
    let h : 95 ≡ y = cc in
    let P : ℕ → Type 0 = λ n. digit_value n < 10 in
    absurd (no_digit (subst P (sym h) dy.0))
same_digits (x ∷ xs) [] a b dx dy e =
    let h : x ≡ 95 = cc in
    let P : ℕ → Type 0 = λ n. digit_value n < 10 in
    absurd (no_digit (subst P h dx.0))
same_digits (x ∷ xs) (y ∷ ys) a b dx dy e =
    let h : x ≡ y = cc in
    let t : xs ++ (95 ∷ a) ≡ ys ++ (95 ∷ b) = cc in
    let r : xs ≡ ys = same_digits xs ys a b dx.1 dy.1 t in
    cc

-- units of one name have one number
pub unit_number : (j k : ℕ) (a b : List ℕ) → j < 2 ^ 64 → k < 2 ^ 64 → unit_name j a ≡ unit_name k b → j ≡ k
unit_number j k a b hj hk e =
    let t : decimal j ++ (95 ∷ a) ≡ decimal k ++ (95 ∷ b) = cc in
    decimal_injective j k hj hk (same_digits (decimal j) (decimal k) a b (decimal_is_IsNumeral j hj).0.1 (decimal_is_IsNumeral k hk).0.1 t)

-- whether bytes are equal, where they are not
pub bytes_differ : (xs ys : List ℕ) → xs ≢ ys → bytes_eq xs ys ≡ false
bytes_differ xs ys ne = by (bytes_eq xs ys) refl where
  by : (b : Bool) → bytes_eq xs ys ≡ b → b ≡ false
  by true e = absurd (ne ((bytes_eq-Decides xs ys).0 e))
  by false e = refl

pub bytes_same : (xs : List ℕ) → bytes_eq xs xs ≡ true
bytes_same xs = (bytes_eq-Decides xs xs).1 refl

pub unit_differs : (j k : ℕ) (a b : List ℕ) → j < 2 ^ 64 → k < 2 ^ 64 → j ≢ k → bytes_eq (unit_name j a) (unit_name k b) ≡ false
unit_differs j k a b hj hk ne = bytes_differ _ _ (λ e. ne (unit_number j k a b hj hk e))

-- The first breach of a row is one of the row, and no other one stands before it.
use Rattle.std.proofs.Common.{◌≡◌, ℕ, Bool, true, false, if◌then◌else◌, nat_eq, nat_lt, List, [], ◌∷◌, Some, None, refl, sym, ap, ◌∙◌, subst, arith, ⊎_elim}
use Rattle.std.specs.Option.{unwrap_or, is_some}
use Rattle.std.proofs.lemmas.Bool.{false≢true}
use Rattle.std.proofs.lemmas.Bool.Decides.{nat_tests}
use Rattle.std.proofs.lemmas.List.Elements.{Contains-append_left, Contains-append_right, Contains-append_cases, Contains-push}
use Rattle.tl_text.specs.Codes.{number_of}
use Rattle.tl_text.specs.declared.fault.Refusal.{Refusal}
use Rattle.sml_restrict_core.specs.Breaches.{after, earlier, first, IsFirst, stands_before}

abbrev is_less : ℕ → ℕ → ℕ → ℕ → ℕ → ℕ → Bool
is_less s p m t q n = if nat_eq s t then (if nat_eq p q then nat_lt m n else nat_lt p q) else nat_lt s t

is_less-itself : (s p m : ℕ) → is_less s p m s p m ≡ false
is_less-itself s p m = grind (arith, nat_tests)

is_less-turned : (s p m t q n : ℕ) → is_less s p m t q n ≡ true → is_less t q n s p m ≡ false
is_less-turned s p m t q n h = grind (arith, nat_tests)

is_less-false : (s p m t q n u r o : ℕ) → is_less s p m t q n ≡ false → is_less t q n u r o ≡ false → is_less s p m u r o ≡ false
is_less-false s p m t q n u r o h k = grind (arith, nat_tests)

is_less-true : (s p m t q n u r o : ℕ) (d : Bool) → is_less t q n u r o ≡ d → is_less s p m t q n ≡ true → is_less s p m u r o ≡ false → d ≡ false
is_less-true s p m t q n u r o true e h k = absurd (false≢true (sym (is_less-false s p m u r o t q n k (is_less-turned t q n u r o e)) ∙ h))
is_less-true s p m t q n u r o false e h k = refl

first-more : (found x : Refusal) (xs : List Refusal) (b : Refusal) (t : Bool) → stands_before x found ≡ t → IsFirst b ((if t then x else found) ∷ xs) → IsFirst b (found ∷ x ∷ xs)
first-more found x xs b true h (has, none) = (
  Contains-append_right (found ∷ []) (x ∷ xs) b has,
  (
    is_less-true x.place.source x.place.byte (number_of x.code) found.place.source found.place.byte (number_of found.code) b.place.source b.place.byte (number_of b.code) (stands_before found b) refl h none.0,
    none,
  ),
)
first-more found x xs b false h (has, none) = (
  ⊎_elim (Contains-append_left (found ∷ []) (x ∷ xs) b) (Contains-append_right (found ∷ x ∷ []) xs b) (Contains-append_cases (found ∷ []) xs b has),
  (
    none.0,
    (
      is_less-false x.place.source x.place.byte (number_of x.code) found.place.source found.place.byte (number_of found.code) b.place.source b.place.byte (number_of b.code) h none.0,
      none.1,
    ),
  ),
)

first-after : (found : Refusal) (bs : List Refusal) (b : Refusal) → after (Some found) bs ≡ Some b → IsFirst b (found ∷ bs)
first-after found [] b e =
    subst (λ y. IsFirst y (found ∷ [])) (ap (λ o. unwrap_or o found) e)
    (Contains-push [] found, (is_less-itself found.place.source found.place.byte (number_of found.code), tt))
first-after found (x ∷ xs) b e = first-more found x xs b (stands_before x found) refl (first-after (earlier (Some found) x) xs b e)

pub first-is_first : (bs : List Refusal) (b : Refusal) → first bs ≡ Some b → IsFirst b bs
first-is_first [] b e = absurd (false≢true (ap is_some e))
first-is_first (x ∷ xs) b e = first-after x xs b e

after-some : (found : Refusal) (bs : List Refusal) → is_some (after (Some found) bs) ≡ true
after-some found [] = refl
after-some found (x ∷ xs) = after-some (earlier (Some found) x) xs

-- a row without a first breach is empty
pub first-none : (bs : List Refusal) → first bs ≡ None → bs ≡ []
first-none [] e = refl
first-none (x ∷ xs) e = absurd (false≢true (ap is_some (sym e) ∙ after-some x xs))

-- The base of a name, byte by byte.
use Rattle.std.proofs.Common.{◌≡◌, ℕ, Bool, true, false, cond, ◌||◌, eqb, List, [], ◌∷◌, ◌++◌, map, refl, ap, sym, ◌∙◌}
use Rattle.std.specs.List.{list_any}
use Rattle.std.proofs.lemmas.Bool.{true≢false, eq-eqb, ne_eqb}
use Rattle.std.proofs.lemmas.List.{append-nil}
use Rattle.std.proofs.lemmas.List.Folds.{list_any-append}
use Rattle.tl_session.specs.Written.{after_slash, before_dot, plain_byte, base_of}

abbrev is_slash : ℕ → Bool
is_slash c = eqb c 47

abbrev is_dot : ℕ → Bool
is_dot c = eqb c 46

-- whether the part behind the last slash has a dot
abbrev pub is_cut_in : List ℕ → Bool
is_cut_in name = list_any is_dot (after_slash name)

or-at_true : (t : Bool) → (t || true) ≡ true
or-at_true true = refl
or-at_true false = refl

or-at_false : (t : Bool) → (t || false) ≡ t
or-at_false true = refl
or-at_false false = refl

slash_more : (xs : List ℕ) (b : ℕ) → is_slash b ≡ true → list_any is_slash (xs ++ b ∷ []) ≡ true
slash_more xs b e = list_any-append is_slash xs (b ∷ []) ∙ (ap (λ t. list_any is_slash xs || (t || false)) e ∙ or-at_true (list_any is_slash xs))

no_slash_more : (xs : List ℕ) (b : ℕ) → is_slash b ≡ false → list_any is_slash (xs ++ b ∷ []) ≡ list_any is_slash xs
no_slash_more xs b e = list_any-append is_slash xs (b ∷ []) ∙ (ap (λ t. list_any is_slash xs || (t || false)) e ∙ or-at_false (list_any is_slash xs))

-- a slash begins the part anew
at_slash : (xs : List ℕ) (b : ℕ) → is_slash b ≡ true → after_slash (xs ++ b ∷ []) ≡ []
at_slash [] b e = ap (λ t. cond (t || false) [] (b ∷ [])) e
at_slash (x ∷ xs) b e = ap (λ t. cond t (after_slash (xs ++ b ∷ [])) (x ∷ (xs ++ b ∷ []))) (slash_more (x ∷ xs) b e) ∙ at_slash xs b e

-- any other byte goes on
at_other : (xs : List ℕ) (b : ℕ) → is_slash b ≡ false → after_slash (xs ++ b ∷ []) ≡ after_slash xs ++ b ∷ []
at_other [] b e = ap (λ t. cond (t || false) [] (b ∷ [])) e
at_other (x ∷ xs) b e =
    ap (λ t. cond t (after_slash (xs ++ b ∷ [])) (x ∷ (xs ++ b ∷ []))) (no_slash_more (x ∷ xs) b e)
    ∙ (ap (λ y. cond (list_any is_slash (x ∷ xs)) y (x ∷ (xs ++ b ∷ []))) (at_other xs b e)
    ∙ out (list_any is_slash (x ∷ xs)))
  where
    out : (t : Bool) → cond t (after_slash xs ++ b ∷ []) (x ∷ (xs ++ b ∷ [])) ≡ cond t (after_slash xs) (x ∷ xs) ++ b ∷ []
    out true = refl
    out false = refl

-- behind a dot nothing is added
dotted : (xs : List ℕ) (b : ℕ) → list_any is_dot xs ≡ true → before_dot (xs ++ b ∷ []) ≡ before_dot xs
dotted [] b e = absurd (cc)
dotted (x ∷ xs) b e = by (dotted xs b) (is_dot x) refl
  where
    by : (list_any is_dot xs ≡ true → before_dot (xs ++ b ∷ []) ≡ before_dot xs) → (t : Bool) → is_dot x ≡ t → before_dot ((x ∷ xs) ++ b ∷ []) ≡ before_dot (x ∷ xs)
    by rest true h = ap (λ t. cond t [] (x ∷ before_dot (xs ++ b ∷ []))) h ∙ sym (ap (λ t. cond t [] (x ∷ before_dot xs)) h)
    by rest false h = ap (λ y. cond (is_dot x) [] (x ∷ y)) (rest (sym (ap (λ t. t || list_any is_dot xs) h) ∙ e))

-- where there is no dot yet, all is kept
undotted : (xs : List ℕ) (b : ℕ) → list_any is_dot xs ≡ false → before_dot (xs ++ b ∷ []) ≡ before_dot xs ++ before_dot (b ∷ [])
undotted [] b e = refl
undotted (x ∷ xs) b e = by (undotted xs b) (is_dot x) refl
  where
    by : (list_any is_dot xs ≡ false → before_dot (xs ++ b ∷ []) ≡ before_dot xs ++ before_dot (b ∷ [])) → (t : Bool) → is_dot x ≡ t → before_dot ((x ∷ xs) ++ b ∷ []) ≡ before_dot (x ∷ xs) ++ before_dot (b ∷ [])
    by rest true h = absurd (true≢false (sym (ap (λ t. t || list_any is_dot xs) h) ∙ e))
    by rest false h =
        ap (λ t. cond t [] (x ∷ before_dot (xs ++ b ∷ []))) h
        ∙ (ap (λ y. x ∷ y) (rest (sym (ap (λ t. t || list_any is_dot xs) h) ∙ e))
        ∙ sym (ap (λ t. cond t [] (x ∷ before_dot xs) ++ before_dot (b ∷ [])) h))

map-push : (xs ys : List ℕ) → map plain_byte (xs ++ ys) ≡ map plain_byte xs ++ map plain_byte ys
map-push [] ys = refl
map-push (x ∷ xs) ys = ap (λ y. plain_byte x ∷ y) (map-push xs ys)

module _ (xs : List ℕ) (b : ℕ) where
  pub base_at_slash : b ≡ 47 → base_of (xs ++ b ∷ []) ≡ []
  base_at_slash e = ap (λ y. map plain_byte (before_dot y)) (at_slash xs b (eq-eqb b 47 e))

  pub cut_at_slash : b ≡ 47 → is_cut_in (xs ++ b ∷ []) ≡ false
  cut_at_slash e = ap (λ y. list_any is_dot y) (at_slash xs b (eq-eqb b 47 e))

  cut_more : (b ≡ 47 → ⊥) → is_cut_in (xs ++ b ∷ []) ≡ (is_cut_in xs || (is_dot b || false))
  cut_more n = ap (λ y. list_any is_dot y) (at_other xs b (ne_eqb b 47 n)) ∙ list_any-append is_dot (after_slash xs) (b ∷ [])

  pub cut_at_dot : (b ≡ 47 → ⊥) → b ≡ 46 → is_cut_in (xs ++ b ∷ []) ≡ true
  cut_at_dot n e = cut_more n ∙ (ap (λ t. is_cut_in xs || (t || false)) (eq-eqb b 46 e) ∙ or-at_true (is_cut_in xs))

  pub cut_at_other : (b ≡ 47 → ⊥) → (b ≡ 46 → ⊥) → is_cut_in (xs ++ b ∷ []) ≡ is_cut_in xs
  cut_at_other n d = cut_more n ∙ (ap (λ t. is_cut_in xs || (t || false)) (ne_eqb b 46 d) ∙ or-at_false (is_cut_in xs))

  pub base_when_cut : (b ≡ 47 → ⊥) → is_cut_in xs ≡ true → base_of (xs ++ b ∷ []) ≡ base_of xs
  base_when_cut n c = ap (λ y. map plain_byte (before_dot y)) (at_other xs b (ne_eqb b 47 n)) ∙ ap (map plain_byte) (dotted (after_slash xs) b c)

  base_uncut : (b ≡ 47 → ⊥) → is_cut_in xs ≡ false → base_of (xs ++ b ∷ []) ≡ base_of xs ++ map plain_byte (before_dot (b ∷ []))
  base_uncut n c =
      ap (λ y. map plain_byte (before_dot y)) (at_other xs b (ne_eqb b 47 n))
      ∙ (ap (map plain_byte) (undotted (after_slash xs) b c)
      ∙ map-push (before_dot (after_slash xs)) (before_dot (b ∷ [])))

  pub base_at_dot : (b ≡ 47 → ⊥) → b ≡ 46 → base_of (xs ++ b ∷ []) ≡ base_of xs
  base_at_dot n e = by (is_cut_in xs) refl
    where
      by : (t : Bool) → is_cut_in xs ≡ t → base_of (xs ++ b ∷ []) ≡ base_of xs
      by true c = base_when_cut n c
      by false c = base_uncut n c ∙ (ap (λ t. base_of xs ++ map plain_byte (cond t [] (b ∷ []))) (eq-eqb b 46 e) ∙ append-nil (base_of xs))

  pub base_at_other : (b ≡ 47 → ⊥) → (b ≡ 46 → ⊥) → is_cut_in xs ≡ false → base_of (xs ++ b ∷ []) ≡ base_of xs ++ plain_byte b ∷ []
  base_at_other n d c = base_uncut n c ∙ ap (λ t. base_of xs ++ map plain_byte (cond t [] (b ∷ []))) (ne_eqb b 46 d)

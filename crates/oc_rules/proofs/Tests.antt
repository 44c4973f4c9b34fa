-- Laws of the small tests on bytes.
use Rattle.std.proofs.Common.{◌≡◌, ℕ, ◌≤◌, Bool, true, false, not, ◌&&◌, ◌||◌, List, [], ◌∷◌, ◌++◌, length, refl, sym, ap, subst, ◌∙◌, arith}
use Rattle.std.specs.Prelude.{nat_eq, nat_le}
use Rattle.std.proofs.lemmas.Bool.{eqb-true, leb-true}
use Rattle.oc_rules.specs.Bytes.{between, is_small, is_letter, is_digit, is_word_byte, is_part, every, heads, same, is_any}

pub never : false ≡ true → ⊥
never e = absurd cc

-- a test that is both
pub both_ways : {A : Type 0} (b : Bool) → b ≡ true → b ≡ false → A
both_ways true e f = absurd cc
both_ways false e f = absurd cc

pub and_true : (a b : Bool) → (a && b) ≡ true → (a ≡ true) × (b ≡ true)
and_true true b e = (refl, e)
and_true false b e = absurd cc

pub or_false : (a b : Bool) → (a || b) ≡ false → (a ≡ false) × (b ≡ false)
or_false true b e = absurd cc
or_false false b e = (refl, e)

pub and_of : (a b : Bool) → a ≡ true → b ≡ true → (a && b) ≡ true
and_of true b e f = f
and_of false b e f = absurd cc

pub not_true : (a : Bool) → not a ≡ true → a ≡ false
not_true true e = absurd cc
not_true false e = refl

pub not_of : (a : Bool) → a ≡ false → not a ≡ true
not_of true e = absurd cc
not_of false e = refl

pub unequal : (a b : ℕ) → (a ≡ b → ⊥) → nat_eq a b ≡ false
unequal a b other = go (nat_eq a b) refl
  where
    go : (t : Bool) → nat_eq a b ≡ t → t ≡ false
    go true e = absurd (other (eqb-true a b e))
    go false e = refl

pub between_is : (low high c : ℕ) → between low high c ≡ true → (low ≤ c) × (c ≤ high)
between_is low high c e = let h = and_true (nat_le low c) (nat_le c high) e in (leb-true low c h.0, leb-true c high h.1)

pub letter_part : (c : ℕ) → is_letter c ≡ true → is_part c ≡ true
letter_part c e = rw e refl

pub digit_part : (c : ℕ) → is_digit c ≡ true → is_part c ≡ true
digit_part c e = go (is_letter c)
  where
    go : (b : Bool) → ((b || (is_digit c || nat_eq c 95)) || nat_eq c 39) ≡ true
    go true = refl
    go false = rw e refl

pub word_part : (c : ℕ) → is_word_byte c ≡ true → is_part c ≡ true
word_part c e = rw e refl

pub small_letter : (c : ℕ) → is_small c ≡ true → is_letter c ≡ true
small_letter c e = rw e refl

pub every_more : (p q : ℕ → Bool) → ((c : ℕ) → p c ≡ true → q c ≡ true) → (s : List ℕ) → every p s ≡ true → every q s ≡ true
every_more p q f [] e = refl
every_more p q f (c ∷ s) e = let h = and_true (p c) (every p s) e in and_of (q c) (every q s) (f c h.0) (every_more p q f s h.1)

-- where one byte fails the wider test it fails the narrower one
pub heads_less : (p q : ℕ → Bool) → ((c : ℕ) → p c ≡ true → q c ≡ true) → (s : List ℕ) → heads q s ≡ false → heads p s ≡ false
heads_less p q f [] e = refl
heads_less p q f (c ∷ s) e = go (p c) refl
  where
    go : (b : Bool) → p c ≡ b → b ≡ false
    go true y = both_ways (q c) (f c y) e
    go false y = refl

pub same_is : (s t : List ℕ) → same s t ≡ true → s ≡ t
same_is [] [] e = refl
same_is [] (d ∷ t) e = absurd cc
same_is (c ∷ s) [] e = absurd cc
same_is (c ∷ s) (d ∷ t) e =
    let h = and_true (nat_eq c d) (same s t) e in
    let a : c ≡ d = eqb-true c d h.0 in
    let b : s ≡ t = same_is s t h.1 in
    cc

-- what holds of each member holds of one that is there
abbrev pub each : (List ℕ → Bool) → List (List ℕ) → Bool
each p [] = true
each p (w ∷ ws) = p w && each p ws

pub any_is : (p : List ℕ → Bool) (ws : List (List ℕ)) (s : List ℕ) → each p ws ≡ true → is_any ws s ≡ true → p s ≡ true
any_is p [] s e a = absurd cc
any_is p (w ∷ ws) s e a = go (λ x. any_is p ws s (and_true (p w) (each p ws) e).1 x) (same w s) refl
  where
    go : (is_any ws s ≡ true → p s ≡ true) → (b : Bool) → same w s ≡ b → p s ≡ true
    go later true y = subst (λ (z : List ℕ). p z ≡ true) (same_is w s y) (and_true (p w) (each p ws) e).0
    go later false y = later (sym (ap (λ (z : Bool). z || is_any ws s) y) ∙ a)

-- a run of bytes of one kind is no longer than the front, behind which no such byte stands
pub prefix : (p : ℕ → Bool) (run rest other behind : List ℕ) → other ++ behind ≡ run ++ rest → every p other ≡ true → heads p rest ≡ false → length other ≤ length run
prefix p run rest [] behind e a h = omega arith
prefix p [] [] (c ∷ o) behind e a h = absurd cc
prefix p [] (d ∷ r) (c ∷ o) behind e a h =
    let same : c ≡ d = cc in
    both_ways (p d) (subst (λ (z : ℕ). p z ≡ true) same (and_true (p c) (every p o) a).0) h
prefix p (d ∷ run) rest (c ∷ o) behind e a h =
    let tails : o ++ behind ≡ run ++ rest = cc in
    let less : length o ≤ length run = prefix p run rest o behind tails (and_true (p c) (every p o) a).1 h in
    omega (arith, less)

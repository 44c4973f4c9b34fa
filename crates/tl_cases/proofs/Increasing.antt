-- Neighbours that increase, and lists that increase.
use Rattle.std.proofs.Common.{◌≡◌, ℕ, suc, zero, ◌+◌, ◌<◌, Bool, true, false, ◌&&◌, List, [], ◌∷◌, length, get_or, refl, subst, arith, add-one}
use Rattle.std.specs.Ordering.{nat_cmp, is_lt}
use Rattle.std.specs.Cmp.Lexicographic.{slice_cmp}
use Rattle.tl_cases.specs.declared.row.Row.{Row}
use Rattle.tl_cases.specs.Rows.{pairs_of, increases_from, is_increasing}

-- whether the key of the first row comes before that of the second
abbrev pub before : Row → Row → Bool
before x y = is_lt (slice_cmp nat_cmp x.key.now y.key.now)

false_both : (a b : Bool) → b ≡ false → (a && b) ≡ false
false_both true b e = e
false_both false b e = refl

rise_from : (x : Row) (rows : List Row) → ((k : ℕ) (d : Row) → suc k < length (x ∷ rows) → before (get_or (x ∷ rows) k d) (get_or (x ∷ rows) (suc k) d) ≡ true) → increases_from x.key.now (pairs_of rows) ≡ true
rise_from x [] h = refl
rise_from x (y ∷ rows) h =
    let here : before x y ≡ true = h 0 x (omega arith) in
    let rest : increases_from y.key.now (pairs_of rows) ≡ true = rise_from y rows (λ k d lt. h (suc k) d (omega arith)) in
    λ i. here i && rest i

-- rows of which each comes before the next increase
pub rise : (rows : List Row) → ((k : ℕ) (d : Row) → k + 1 < length rows → before (get_or rows k d) (get_or rows (k + 1) d) ≡ true) → is_increasing (pairs_of rows) ≡ true
rise [] h = refl
rise (x ∷ rows) h = rise_from x rows (λ k d lt. subst (λ j. before (get_or (x ∷ rows) k d) (get_or (x ∷ rows) j d) ≡ true) (add-one k) (h k d (omega arith)))

fall_from : (x : Row) (rows : List Row) (k : ℕ) → suc k < length (x ∷ rows) → ((d : Row) → before (get_or (x ∷ rows) k d) (get_or (x ∷ rows) (suc k) d) ≡ false) → increases_from x.key.now (pairs_of rows) ≡ false
fall_from x [] k lt e = absurd (omega arith)
fall_from x (y ∷ rows) zero lt e = λ i. e x i && increases_from y.key.now (pairs_of rows)
fall_from x (y ∷ rows) (suc k) lt e = false_both (before x y) _ (fall_from y rows k (omega arith) (λ d. e d))

-- rows of which one does not come before the next do not increase
pub fall : (rows : List Row) (k : ℕ) → k + 1 < length rows → ((d : Row) → before (get_or rows k d) (get_or rows (k + 1) d) ≡ false) → is_increasing (pairs_of rows) ≡ false
fall [] k lt e = absurd (omega arith)
fall (x ∷ rows) k lt e = fall_from x rows k (omega arith) (λ d. subst (λ j. before (get_or (x ∷ rows) k d) (get_or (x ∷ rows) j d) ≡ false) (add-one k) (e d))

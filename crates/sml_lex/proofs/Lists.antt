-- Lists of bytes: tests on all, runs at the front, and the rest behind a byte.
use Rattle.std.proofs.Common.{◌≡◌, ℕ, ◌+◌, ◌<◌, ◌≤◌, Bool, true, false, ◌&&◌, List, [], ◌∷◌, length, drop, get_or, refl, sym, ap, ◌∙◌, arith, add-one, drop-cons}
use Rattle.std.proofs.Math.ListN.{drop_of_length-le}
use Rattle.sml_lex.specs.Bytes.{all_are}

pub first_true : (a b : Bool) → (a && b) ≡ true → a ≡ true
first_true true b e = refl
first_true false b e = e

pub second_true : (a b : Bool) → (a && b) ≡ true → b ≡ true
second_true true b e = e
second_true false b e = cc

-- a byte and what stands behind it
pub drop_at : (s : List ℕ) (i : ℕ) → i < length s → drop i s ≡ get_or s i 0 ∷ drop (i + 1) s
drop_at s i lt = drop-cons s i 0 lt ∙ ap (λ k. get_or s i 0 ∷ drop k s) (sym (add-one i))

pub both_true : (a b : Bool) → a ≡ true → b ≡ true → (a && b) ≡ true
both_true a b e f = ap (λ x. x && b) e ∙ f

-- a text by its first byte
pub first_back : (s : List ℕ) (c : ℕ) → 0 < length s → get_or s 0 0 ≡ c → c ∷ drop 1 s ≡ s
first_back [] c lt e = absurd (omega arith)
first_back (d ∷ s) c lt e = ap (λ b. b ∷ s) (sym e)

-- all bytes pass where this one does and those behind it do
pub all_more : (p : ℕ → Bool) (s : List ℕ) (i : ℕ) → i < length s → p (get_or s i 0) ≡ true → all_are p (drop i s) ≡ all_are p (drop (i + 1) s)
all_more p s i lt e = ap (all_are p) (drop_at s i lt) ∙ ap (λ b. b && all_are p (drop (i + 1) s)) e

pub all_less : (p : ℕ → Bool) (s : List ℕ) (i : ℕ) → i < length s → p (get_or s i 0) ≡ false → all_are p (drop i s) ≡ false
all_less p s i lt e = ap (all_are p) (drop_at s i lt) ∙ ap (λ b. b && all_are p (drop (i + 1) s)) e

pub all_end : (p : ℕ → Bool) (s : List ℕ) (i : ℕ) → length s ≤ i → all_are p (drop i s) ≡ true
all_end p s i le = ap (all_are p) (drop_of_length-le s le)

-- More of what holds of a form: its numbers said otherwise, and a row behind a phrase of another kind.
use Rattle.std.proofs.Common.{◌≡◌, ℕ, ◌≤◌, max, Bool, true, not, ◌&&◌, List, [], ◌∷◌, ◌++◌, Option, Some, sym, ap, subst, ◌∙◌, arith}
use Rattle.readers.specs.Reader.{first, head_is, Reader, both, row}
use Rattle.readers.specs.Language.{Both, Row}
use Rattle.readers.specs.Room.{Room}
use Rattle.readers.specs.Exact.{row_stop}
use Rattle.readers.specs.Forms.{highest}
use Rattle.readers.proofs.Bundle.{Known, Fitting, Part, Phrase}
use Rattle.readers.proofs.Combine.{pair_by}
use Rattle.readers.proofs.Repeat.{rows}
use Rattle.readers.proofs.Choose.{row_alike}
use Rattle.readers.proofs.Outcome.{head_some, head-append}
use Rattle.readers.proofs.Row.{both_true}
use Rattle.readers.proofs.Grow.{two_are}

module _ {K T : Type 0} {s : Known} {n up : ℕ} {D : Room → T → List K → Type 0} {p : Room → Reader K T} {sd : T → Option K → Bool} {td : T → ℕ} {l m : ℕ} where
  -- the same, with other numbers
  pub numbered : (l' m' : ℕ) → Part s n up D p sd td l m → l' ≤ l → l ≤ l' → m ≤ m' → Part s n up D p sd td l' m'
  numbered l' m' P a b c = record {
    above = P.above;
    least = P.least;
    lowest = λ k t w i d. let x = P.lowest k t w i d in omega arith;
    fits = P.fits;
    some = λ h i le. P.some h i (omega arith);
    reads = P.reads;
    refuses = λ h i le v e j. P.refuses h i (omega arith) v e j;
  }

  pub numbered_phrase : {test : K → Bool} {e : ℕ} (l' m' e' : ℕ) → Phrase s n up D p sd td l m test e → l' ≤ l → l ≤ l' → m ≤ m' → e ≤ e' → Phrase s n up D p sd td l' m' test e'
  numbered_phrase l' m' e' P a b c d = record {
    part = numbered l' m' P.part a b c;
    opening = record { begins = P.opening.begins; starts = λ h c i le e. P.opening.starts h c i (omega arith) e; bars = P.opening.bars };
  }

-- a phrase, and a row of others that begin with a token, where both are stopped alike
module _ {K S T : Type 0} {s : Known} {n : ℕ} {stop : Option K → Bool} {D : Room → S → List K → Type 0} {p : Room → Reader K S} {td : S → ℕ} {ld nd : ℕ} {E : Room → T → List K → Type 0} {q : Room → Reader K T} {te : T → ℕ} {le ne : ℕ} {sep : K → Bool} {ee : ℕ} where
  pub pair_row : Part s n 0 D p (λ x. stop) td ld nd → Phrase s n 0 E q (λ y. stop) te le ne sep ee → ((c : K) → sep c ≡ true → stop (Some c) ≡ true)
      → Part s n 0 (λ k. Both (D k) (Row (E k))) (λ k. both (p k) (row sep (q k))) (λ x o. stop o && not (head_is sep o)) (λ x. max (td x.0) (highest te x.1)) (max ld 0) (max nd (max ne 0))
  pair_row P Q next = pair_by P (rows Q (λ t c e. next c e)) (λ x o. stop o && not (head_is sep o)) split join
    where
      begins : (k : Room) (y : T) (ys : List T) (v : List K) → Fitting s n k → Row (E k) (y ∷ ys) v → head_is sep (first v) ≡ true
      begins k y ys v i d = subst (λ (z : List K). head_is sep (first z) ≡ true) (sym d.whole) (head-append sep d.front d.back (Q.opening.begins k y d.front i d.left))

      split : (k : Room) (x : S) (ys : List T) (v r : List K) → Fitting s n k → Row (E k) ys v → (stop (first r) && not (head_is sep (first r))) ≡ true → (stop (first (v ++ r)) ≡ true) × (row_stop sep (λ (y : T). stop) ys (first r) ≡ true)
      split k x [] v r i d e =
          let two = both_true (stop (first r)) (not (head_is sep (first r))) e in
          (subst (λ (v : List K). stop (first (v ++ r)) ≡ true) (sym d) two.0, two.1)
      split k x (y ∷ ys) v r i d e =
          let g = head_some sep (first (v ++ r)) (head-append sep v r (begins k y ys v i d)) in
          (ap stop g.1 ∙ next g.0 g.2, row_alike sep stop y ys (first r) ∙ e)

      join : (k : Room) (x : S) (ys : List T) (v r : List K) → Fitting s n k → Row (E k) ys v → stop (first (v ++ r)) ≡ true → row_stop sep (λ (y : T). stop) ys (first r) ≡ true → (stop (first r) && not (head_is sep (first r))) ≡ true
      join k x [] v r i d a e = two_are (stop (first r)) (not (head_is sep (first r))) (subst (λ (v : List K). stop (first (v ++ r)) ≡ true) d a) e
      join k x (y ∷ ys) v r i d a e = sym (row_alike sep stop y ys (first r)) ∙ e

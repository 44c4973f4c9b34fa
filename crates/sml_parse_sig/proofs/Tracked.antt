-- Rows with a state, where the loop keeps more than the state of the grammar.
use Rattle.std.proofs.Common.{◌≡◌, ℕ, zero, suc, Bool, true, false, cond, List, [], ◌∷◌, length, Ok, Err, refl, ap, ◌∙◌}
use Rattle.readers.specs.declared.fault.ReadError.{ReadError}
use Rattle.readers.specs.declared.fault.ReadError.TheVariants as errors
use Rattle.readers.specs.Given.{Fails}
use Rattle.readers.specs.Reader.{first, Answer, Reader, ◌>>=◌, head_is, steps_by, steps}
use Rattle.readers.proofs.RowLoop.{Shortens}
use Rattle.readers.proofs.StepLoop.{ended, state_turn, state_end, state_fails}

abbrev prefixed : {K U : Type 0} → U → Answer K (List U) → Answer K (List U)
prefixed u r = r >>= λ t. Ok (u ∷ t.0, t.1)

module _ {K X Y U : Type 0} (state : Y → X) (test : K → Bool) (step : X → U → X) (track : Y → U → Y) (q : X → Reader K U) (same : (y : Y) (u : U) → state (track y u) ≡ step (state y) u) where
  tracked_by : (n : ℕ) (y : Y) (s : List K) → steps_by test track (λ y. q (state y)) n y s ≡ steps_by test step q n (state y) s
  unfolding steps_by
  tracked_by zero y s = refl
  tracked_by (suc n) y s =
      ap (λ (r : Answer K (List U)). cond (head_is test (first s)) r (Ok ([], s)))
      (go (q (state y) s) (λ z. tracked_by n (track y z.0) z.1 ∙ ap (λ (x : X). steps_by test step q n x z.1) (same y z.0)))
    where
      go : (r : Answer K U) → ((z : U × List K) → steps_by test track (λ y. q (state y)) n (track y z.0) z.1 ≡ steps_by test step q n (step (state y) z.0) z.1)
          → (r >>= (λ z. prefixed z.0 (steps_by test track (λ y. q (state y)) n (track y z.0) z.1))) ≡ (r >>= (λ z. prefixed z.0 (steps_by test step q n (step (state y) z.0) z.1)))
      go (Ok z) f = ap (prefixed z.0) (f z)
      go (Err e) f = refl

  pub tracked : (y : Y) (s : List K) → steps test track (λ y. q (state y)) y s ≡ steps test step q (state y) s
  tracked y s = tracked_by (length s) y s

-- a loop over such a row, and what is made of its end
module _ {K X U T : Type 0} (test : K → Bool) (step : X → U → X) (q : X → Reader K U) (less : (x : X) → Shortens (q x)) (finish : Answer K X → Answer K T) (broken : (e : _) → finish (Err e) ≡ Err e) where
  abbrev pub run : X → List K → Answer K T
  run x s = finish (ended step x (steps test step q x s))

  pub run_turn : (x : X) (s : List K) (z : U × List K) (all : Answer K T) → all ≡ run x s → head_is test (first s) ≡ true → q x s ≡ Ok z → all ≡ run (step x z.0) z.1
  run_turn x s z all inv h e = inv ∙ ap finish (state_turn test step q less x s z (ended step x (steps test step q x s)) refl h e)

  pub run_end : (x : X) (s : List K) (all : Answer K T) → all ≡ run x s → head_is test (first s) ≡ false → all ≡ finish (Ok (x, s))
  run_end x s all inv h = inv ∙ ap finish (state_end test step q less x s (ended step x (steps test step q x s)) refl h)

  pub run_fails : (f : ReadError K) (x : X) (s : List K) (all : Answer K T) → all ≡ run x s → head_is test (first s) ≡ true → Fails f (q x s) → Fails f all
  run_fails errors.NoMemory x s all inv h e = tt
  run_fails (errors.Refused code rest) x s all inv h e = inv ∙ (ap finish (state_fails test step q less x s (code, rest.now) (ended step x (steps test step q x s)) refl h e) ∙ broken (code, rest.now))

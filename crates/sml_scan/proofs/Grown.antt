-- Phrases that grow to the right, as the code reads them.
use Rattle.std.proofs.Common.{◌≡◌, ℕ, ◌<◌, ◌≤◌, Bool, true, false, ltb, List, [], ◌∷◌, Ok, Err, refl, ◌∙◌}
use Rattle.std.proofs.lemmas.Bool.{le-ltb, lt-ltb}
use Rattle.readers.specs.declared.code.Code.TheVariants.{Depth}
use Rattle.readers.specs.declared.fault.ReadError.{ReadError}
use Rattle.readers.specs.declared.fault.ReadError.TheVariants as errors
use Rattle.readers.specs.Given.{Fails}
use Rattle.readers.specs.Reader.{first, Answer, Reader, head_is, barred, guard, steps}
use Rattle.readers.specs.Forms.{growth, any_tree}
use Rattle.readers.proofs.Guard.{unless_ok}
use Rattle.readers.proofs.RowLoop.{Shortens}
use Rattle.readers.proofs.StepLoop.{ended, state_turn, state_end, state_fails}

module _ {K E U : Type 0} (test : K → Bool) (tall : E → ℕ) (step : E → U → E) (suffix : Reader K U) (h : ℕ) where
  -- the suffix behind this tree
  abbrev pub next : E → Reader K U
  next x = guard (growth test (any_tree x) (tall x) h) suffix

  low : (x : E) (s : List K) → head_is test (first s) ≡ true → tall x ≤ h → next x s ≡ suffix s
  low x [] i le = absurd cc
  low x (c ∷ s) i le = let f : ltb h (tall x) ≡ false = le-ltb h (tall x) le in rw i (rw f refl)

  high : (x : E) (s : List K) → head_is test (first s) ≡ true → h < tall x → next x s ≡ Err (Depth, s)
  high x [] i lt = absurd cc
  high x (c ∷ s) i lt = let f : ltb h (tall x) ≡ true = lt-ltb h (tall x) lt in rw i (rw f refl)

  module _ (less : Shortens suffix) where
    next_less : (x : E) → Shortens (next x)
    next_less x s z e = less s z (unless_ok (barred (growth test (any_tree x) (tall x) h) (first s)) s (suffix s) z e).1

    pub grown_turn : (x : E) (s : List K) (z : U × List K) (all : Answer K E) → all ≡ ended step x (steps test step next x s) → head_is test (first s) ≡ true → tall x ≤ h → suffix s ≡ Ok z
        → all ≡ ended step (step x z.0) (steps test step next (step x z.0) z.1)
    grown_turn x s z all inv i le e = state_turn test step next next_less x s z all inv i (low x s i le ∙ e)

    pub grown_end : (x : E) (s : List K) (all : Answer K E) → all ≡ ended step x (steps test step next x s) → head_is test (first s) ≡ false → all ≡ Ok (x, s)
    grown_end x s all inv i = state_end test step next next_less x s all inv i

    pub grown_deep : (x : E) (s : List K) (all : Answer K E) → all ≡ ended step x (steps test step next x s) → head_is test (first s) ≡ true → h < tall x → all ≡ Err (Depth, s)
    grown_deep x s all inv i lt = state_fails test step next next_less x s (Depth, s) all inv i (high x s i lt)

    -- a suffix that fails
    pub grown_fails : (f : ReadError K) (x : E) (s : List K) (all : Answer K E) → all ≡ ended step x (steps test step next x s) → head_is test (first s) ≡ true → tall x ≤ h → Fails f (suffix s) → Fails f all
    grown_fails errors.NoMemory x s all inv i le e = tt
    grown_fails (errors.Refused code rest) x s all inv i le e = state_fails test step next next_less x s (code, rest.now) all inv i (low x s i le ∙ e)

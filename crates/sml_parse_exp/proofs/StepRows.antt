-- Rows with a state, item by item: what is still to come behind the items that were found.
use Rattle.std.proofs.Common.{◌≡◌, ℕ, Bool, true, false, max, List, [], ◌∷◌, ◌++◌, Ok, ap, ◌∙◌}
use Rattle.readers.specs.declared.fault.ReadError.{ReadError}
use Rattle.readers.specs.declared.fault.ReadError.TheVariants as errors
use Rattle.readers.specs.Given.{Fails}
use Rattle.readers.specs.Reader.{first, Answer, Reader, head_is, steps}
use Rattle.readers.proofs.RowLoop.{Shortens}
use Rattle.readers.proofs.StepLoop.{steps_more, steps_done, steps_fail}
use Rattle.sml_scan.proofs.Rows.{gathered, front, none}

module _ {K X U : Type 0} (test : K → Bool) (step : X → U → X) (q : X → Reader K U) (less : (x : X) → Shortens (q x)) where
  -- the loop: one more item, the end, and an item that fails
  module _ {S : Type 0} (tree : U → S) (tall : U → ℕ) (found : List S) (n : ℕ) (x : X) (s : List K) (all : Answer K (List S × ℕ)) (inv : all ≡ gathered tree tall found n (steps test step q x s)) where
    pub steps_turn : (z : U × List K) → head_is test (first s) ≡ true → q x s ≡ Ok z → all ≡ gathered tree tall (found ++ tree z.0 ∷ []) (max n (tall z.0)) (steps test step q (step x z.0) z.1)
    steps_turn z h e = inv ∙ (ap (gathered tree tall found n) (steps_more test step q less x s z h e) ∙ front tree tall found n z.0 (steps test step q (step x z.0) z.1))

    pub steps_end : head_is test (first s) ≡ false → all ≡ Ok ((found, n), s)
    steps_end h = inv ∙ (ap (gathered tree tall found n) (steps_done test step q less x s h) ∙ none tree tall found n s)

    pub steps_item_fails : (f : ReadError K) → head_is test (first s) ≡ true → Fails f (q x s) → Fails f all
    steps_item_fails errors.NoMemory h e = tt
    steps_item_fails (errors.Refused code rest) h e = inv ∙ ap (gathered tree tall found n) (steps_fail test step q less x s (code, rest.now) h e)

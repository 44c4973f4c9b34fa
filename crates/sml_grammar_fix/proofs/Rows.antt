-- Directives behind directives, and rows whose items see of what stands before them only one side of it.
use Rattle.std.proofs.Common.{◌≡◌, List, [], ◌∷◌, ◌++◌, refl, sym, ap, ◌∙◌}
use Rattle.readers.specs.Language.{Joined, Steps}
use Rattle.sml_fix.specs.Fixities.{Settings, none, assigned}
use Rattle.sml_grammar_exp.specs.Decs.{Changes, changed, fixed}

-- two lists of directives leave the same fixities
abbrev pub Alike : Changes → Changes → Type 0
Alike cs ds = fixed cs ≡ fixed ds

changed_more : (f : Settings) (cs ms : Changes) → changed f (cs ++ ms) ≡ changed (changed f cs) ms
changed_more f [] ms = refl
changed_more f (c ∷ cs) ms = changed_more (assigned f c.0 c.1) cs ms

-- so do they with the same directives behind them
pub alike_more : (cs ds ms : Changes) → Alike cs ds → Alike (cs ++ ms) (ds ++ ms)
alike_more cs ds ms e = changed_more none cs ms ∙ (ap (λ f. changed f ms) e ∙ sym (changed_more none ds ms))

module _ {K X U : Type 0} (A : X → X → Type 0) (step : X → U → X) (S : X → U → List K → Type 0)
    (keeps : (x y : X) (u : U) → A x y → A (step x u) (step y u)) (same : (x y : X) → A x y → S x ≡ S y) where
  steps_of : (us : List U) (x y : X) → A x y → Steps step S x us ≡ Steps step S y us
  steps_of [] x y a = refl
  steps_of (u ∷ us) x y a = λ i w. Joined (same x y a i u) (steps_of us (step x u) (step y u) (keeps x y u a) i) w

  -- rows with the same items are the same
  pub steps_same : (x y : X) → A x y → Steps step S x ≡ Steps step S y
  steps_same x y a = λ i us. steps_of us x y a i

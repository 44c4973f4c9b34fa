-- Rows of trees with their heights: how high they are, and where they fit.
use Rattle.std.proofs.Common.{◌≡◌, ℕ, ◌≤◌, List, [], ◌∷◌, ap, arith}
use Rattle.readers.specs.Language.{Row, Steps}
use Rattle.readers.specs.Height.{tallest}

-- the height of what was made
pub of_height : {T : Type 0} (x y : T × ℕ) → x ≡ y → x.1 ≡ y.1
of_height x y e = ap (λ (z : _ × ℕ). z.1) e

module _ {K T : Type 0} where
  pub row_fit : (A A' : T × ℕ → List K → Type 0) (k : ℕ) → ((t : T × ℕ) (w : List K) → t.1 ≤ k → A t w → A' t w) → (ts : List (T × ℕ)) (w : List K) → tallest ts ≤ k → Row A ts w → Row A' ts w
  row_fit A A' k g [] w le d = d
  row_fit A A' k g (x ∷ xs) w le d = record { front = d.front; back = d.back; left = g x d.front (omega arith) d.left; right = row_fit A A' k g xs d.back (omega arith) d.right; whole = d.whole }

  pub row_least : (A : T × ℕ → List K → Type 0) (k : ℕ) → ((t : T × ℕ) (w : List K) → A t w → t.1 ≤ k) → (ts : List (T × ℕ)) (w : List K) → Row A ts w → tallest ts ≤ k
  row_least A k g [] w d = omega arith
  row_least A k g (x ∷ xs) w d = let a = g x d.front d.left in let b = row_least A k g xs d.back d.right in omega arith

module _ {K X T : Type 0} (step : X → T × ℕ → X) where
  pub steps_fit : (D D' : X → T × ℕ → List K → Type 0) (k : ℕ) → ((x : X) (d : T × ℕ) (w : List K) → d.1 ≤ k → D x d w → D' x d w)
      → (x : X) (ds : List (T × ℕ)) (w : List K) → tallest ds ≤ k → Steps step D x ds w → Steps step D' x ds w
  steps_fit D D' k g x [] w le d = d
  steps_fit D D' k g x (y ∷ ys) w le d = record { front = d.front; back = d.back; left = g x y d.front (omega arith) d.left; right = steps_fit D D' k g (step x y) ys d.back (omega arith) d.right; whole = d.whole }

  pub steps_least : (D : X → T × ℕ → List K → Type 0) (k : ℕ) → ((x : X) (d : T × ℕ) (w : List K) → D x d w → d.1 ≤ k) → (x : X) (ds : List (T × ℕ)) (w : List K) → Steps step D x ds w → tallest ds ≤ k
  steps_least D k g x [] w d = omega arith
  steps_least D k g x (y ∷ ys) w d = let a = g x y d.front d.left in let b = steps_least D k g (step x y) ys d.back d.right in omega arith

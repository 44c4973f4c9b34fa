-- Rows with a state as a loop reads them: one item, and the state after it.
use Rattle.std.proofs.Common.{◌≡◌, ℕ, zero, suc, ◌≤◌, Bool, true, false, cond, List, [], ◌∷◌, length, Option, Ok, Err, refl, ap, ◌∙◌, arith}
use Rattle.readers.specs.declared.code.Code.{Code}
use Rattle.readers.specs.Reader.{first, Answer, Reader, ◌>>=◌, head_is, steps_by, steps}
use Rattle.readers.specs.Room.{Room}
use Rattle.readers.specs.declared.floor.Floor.{Floor}
use Rattle.readers.specs.Infix.{ups, chain, takes, wrap, suffix_read, infix_read}
use Rattle.readers.proofs.RowLoop.{Shortens}

-- the state after all items
abbrev pub ended : {K X U : Type 0} → (X → U → X) → X → Answer K (List U) → Answer K X
ended step x r = r >>= λ y. Ok (ups step x y.0, y.1)

abbrev paired : {K S T : Type 0} → S → T → List K → Answer K (S × T)
paired x y s = Ok ((x, y), s)

abbrev prefixed : {K U : Type 0} → U → Answer K (List U) → Answer K (List U)
prefixed u r = r >>= λ t. Ok (u ∷ t.0, t.1)

module _ {K X U : Type 0} (test : K → Bool) (step : X → U → X) (q : X → Reader K U) (less : (x : X) → Shortens (q x)) where
  -- the bound does not matter, where it is enough
  steps_fuel : (n m : ℕ) (x : X) (s : List K) → length s ≤ n → length s ≤ m → steps_by test step q n x s ≡ steps_by test step q m x s
  unfolding steps_by
  steps_fuel zero zero x s a b = refl
  steps_fuel zero (suc m) x [] a b = refl
  steps_fuel zero (suc m) x (c ∷ s) a b = absurd (omega arith)
  steps_fuel (suc n) zero x [] a b = refl
  steps_fuel (suc n) zero x (c ∷ s) a b = absurd (omega arith)
  steps_fuel (suc n) (suc m) x s a b =
      ap (λ (r : Answer K (List U)). cond (head_is test (first s)) r (Ok ([], s)))
      (go (q x s) (λ z e. steps_fuel n m (step x z.0) z.1 (let l = less x s z e in omega arith) (let l = less x s z e in omega arith)))
    where
      go : (r : Answer K U) → ((z : U × List K) → r ≡ Ok z → steps_by test step q n (step x z.0) z.1 ≡ steps_by test step q m (step x z.0) z.1)
          → (r >>= (λ y. prefixed y.0 (steps_by test step q n (step x y.0) y.1))) ≡ (r >>= (λ y. prefixed y.0 (steps_by test step q m (step x y.0) y.1)))
      go (Ok z) f = ap (prefixed z.0) (f z refl)
      go (Err e) f = refl

  pub steps_more : (x : X) (s : List K) (z : U × List K) → head_is test (first s) ≡ true → q x s ≡ Ok z → steps test step q x s ≡ prefixed z.0 (steps test step q (step x z.0) z.1)
  unfolding steps_by
  steps_more x [] z h e = absurd cc
  steps_more x (c ∷ s) z h e =
      let l = less x (c ∷ s) z e in
      rw h (rw e (ap (prefixed z.0) (steps_fuel (length s) (length z.1) (step x z.0) z.1 (omega arith) (omega arith))))

  pub steps_done : (x : X) (s : List K) → head_is test (first s) ≡ false → steps test step q x s ≡ Ok ([], s)
  unfolding steps_by
  steps_done x [] h = refl
  steps_done x (c ∷ s) h = rw h refl

  pub steps_fail : (x : X) (s : List K) (e : Code × List K) → head_is test (first s) ≡ true → q x s ≡ Err e → steps test step q x s ≡ Err e
  unfolding steps_by
  steps_fail x [] e h i = absurd cc
  steps_fail x (c ∷ s) e h i = rw h (rw i refl)

  joined : (x : X) (u : U) (r : Answer K (List U)) → ended step x (prefixed u r) ≡ ended step (step x u) r
  joined x u (Ok y) = refl
  joined x u (Err e) = refl

  -- the loop's invariant is `all ≡ ended step x (steps test step q x rest)`: one turn, its end, and a turn that fails
  pub state_turn : (x : X) (s : List K) (z : U × List K) (all : Answer K X) → all ≡ ended step x (steps test step q x s) → head_is test (first s) ≡ true → q x s ≡ Ok z → all ≡ ended step (step x z.0) (steps test step q (step x z.0) z.1)
  state_turn x s z all inv h e = inv ∙ (ap (ended step x) (steps_more x s z h e) ∙ joined x z.0 (steps test step q (step x z.0) z.1))

  pub state_end : (x : X) (s : List K) (all : Answer K X) → all ≡ ended step x (steps test step q x s) → head_is test (first s) ≡ false → all ≡ Ok (x, s)
  state_end x s all inv h = inv ∙ ap (ended step x) (steps_done x s h)

  pub state_fails : (x : X) (s : List K) (e : Code × List K) (all : Answer K X) → all ≡ ended step x (steps test step q x s) → head_is test (first s) ≡ true → q x s ≡ Err e → all ≡ Err e
  state_fails x s e all inv h i = inv ∙ ap (ended step x) (steps_fail x s e h i)

module _ {K V A E : Type 0} (tight : V → ℕ) (right : V → Bool) (view : K → Option V) (top : E → Option V) (tall : E → ℕ) (leaf : A → E) (node : E → V → E → E) where
  -- the first operand, and then the loop over operators
  pub infix_loop : (operand : Reader K A) (inner : Floor → Reader K E) (h : Room) (n : Floor) (s r : List K) (a : A) → operand s ≡ Ok (a, r)
      → infix_read tight right view top tall leaf node operand inner h n s
      ≡ ended (wrap tight right view top tall leaf node) (leaf a) (steps (takes tight right view top tall leaf node n) (wrap tight right view top tall leaf node) (suffix_read tight right view top tall leaf node inner h n) (leaf a) r)
  infix_loop operand inner h n s r a e = rw e (go (steps (takes tight right view top tall leaf node n) (wrap tight right view top tall leaf node) (suffix_read tight right view top tall leaf node inner h n) (leaf a) r))
    where
      go : (r : Answer K (List (V × E))) → ((r >>= λ y. paired a y.0 y.1) >>= λ x. Ok (chain leaf (wrap tight right view top tall leaf node) x.0, x.1)) ≡ ended (wrap tight right view top tall leaf node) (leaf a) r
      go (Ok y) = refl
      go (Err e) = refl

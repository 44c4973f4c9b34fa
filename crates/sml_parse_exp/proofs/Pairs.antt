-- Phrases in two parts, the first seen without heights, the second read under what the first leaves.
use Rattle.std.proofs.Common.{◌≡◌, List, Ok, Err, refl, ap, ◌∙◌, inl, inr}
use Rattle.readers.specs.declared.fault.ReadError.{ReadError}
use Rattle.readers.specs.declared.fault.ReadError.TheVariants as errors
use Rattle.readers.specs.Given.{Fails}
use Rattle.readers.specs.Reader.{Answer, Reader, ◌>>=◌, both, bound, mapped}
use Rattle.readers.proofs.Choice.{remade}
use Rattle.readers.proofs.Outcome.{ok_of, ok_is, err_of, not_both}

abbrev pair_of : {K A B : Type 0} → A → B → List K → Answer K (A × B)
pair_of a b s = Ok ((a, b), s)

abbrev gave : {K T : Type 0} → T → List K → Answer K T
gave x s = Ok (x, s)

-- what was read and then put together
pub node_fails : {K S T : Type 0} (f : S → T) (k : ReadError K) (a : Answer K S) (b : Answer K T) → b ≡ remade f a → Fails k a → Fails k b
node_fails f errors.NoMemory a b e i = tt
node_fails f (errors.Refused code rest) a b e i = e ∙ ap (remade f) i

-- the first of two parts fails
pub both_first_fails : {K A B U : Type 0} (made : A × B → U) (p : Reader K A) (q : Reader K B) (k : ReadError K) (s : List K) → Fails k (p s) → Fails k (mapped made (both p q) s)
both_first_fails made p q errors.NoMemory s e = tt
both_first_fails {K} {A} {B} made p q (errors.Refused code rest) s e = ap (λ (z : Answer K A). remade made (z >>= λ y. q y.1 >>= λ z. pair_of y.0 z.0 z.1)) e

module _ {K A B S U : Type 0} (f : A → S) (p : Reader K A) (q : A → Reader K B) (made : A × B → U) where
  -- the same, where it is seen so
  pub first_part_fails : (k : ReadError K) (s : List K) → Fails k (mapped f p s) → Fails k (mapped made (bound p q) s)
  first_part_fails errors.NoMemory s e = tt
  first_part_fails (errors.Refused code rest) s e =
      elim (err_of (p s) (λ y. gave (f y.0) y.1) (code, rest.now) e) [
        | inl a ↦ ap (λ (z : Answer K A). remade made (z >>= λ y. q y.0 y.1 >>= λ z. pair_of y.0 z.0 z.1)) a
        | inr a ↦ not_both (f a.0.0, a.0.1) (code, rest.now) a.2
      ]

  module _ (node : S → B → U) (same : (a : A) (b : B) → made (a, b) ≡ node (f a) b) where
    second : (a : A) (r : Answer K B) → remade made (r >>= λ y. pair_of a y.0 y.1) ≡ remade (node (f a)) r
    second a (Ok y) = ap (λ (u : U). gave u y.1) (same a y.0)
    second a (Err e) = refl

    -- behind the first part
    pub second_part : (s r : List K) (x : S) (next : Reader K B) → mapped f p s ≡ Ok (x, r) → ((a : A) → f a ≡ x → q a r ≡ next r) → mapped made (bound p q) s ≡ mapped (node x) next r
    second_part s r x next e force =
        let a = ok_of (p s) (λ y. gave (f y.0) y.1) (x, r) e in
        let i = ok_is (f a.0.0, a.0.1) (x, r) a.2 in
        let tree : f a.0.0 ≡ x = ap (λ (y : S × List K). y.0) i in
        let rest : a.0.1 ≡ r = ap (λ (y : S × List K). y.1) i in
        ap (λ (z : Answer K A). remade made (z >>= λ y. q y.0 y.1 >>= λ z. pair_of y.0 z.0 z.1)) a.1
        ∙ (second a.0.0 (q a.0.0 a.0.1)
        ∙ (ap (λ (t : List K). remade (node (f a.0.0)) (q a.0.0 t)) rest
        ∙ (ap (λ (z : Answer K B). remade (node (f a.0.0)) z) (force a.0.0 tree)
        ∙ ap (λ (x : S). remade (node x) (next r)) tree)))

-- What functions of the code answer, carried from one reader to another.
use Rattle.std.proofs.Common.{◌≡◌, Bool, true, false, List, [], ◌∷◌, Ok, Err, refl}
use Rattle.readers.specs.declared.fault.ReadError.{ReadError}
use Rattle.readers.specs.declared.fault.ReadError.TheVariants as errors
use Rattle.readers.specs.Reader.{first, head_is, Answer, Reader, passed, one, skip, row, with_front, steps}
use Rattle.readers.specs.Given.{Fails}
use Rattle.readers.proofs.Choice.{remade}
use Rattle.readers.proofs.RowLoop.{Shortens, turn_fails}
use Rattle.readers.proofs.StepLoop.{ended, state_fails}

-- the same answer
pub fails_as : {K T U : Type 0} (f : ReadError K) (r : Answer K T) (q : Answer K U) → ((e : _) → r ≡ Err e → q ≡ Err e) → Fails f r → Fails f q
fails_as errors.NoMemory r q same i = tt
fails_as (errors.Refused code rest) r q same i = same (code, rest.now) i

-- a turn of a loop over a row that fails
pub row_fails : {K T : Type 0} (f : ReadError K) (test : K → Bool) (p : Reader K T) → Shortens p → (found : List T) (s : List K) (all : Answer K (List T)) → all ≡ with_front found (row test p s)
    → head_is test (first s) ≡ true → Fails f (p s) → Fails f all
row_fails errors.NoMemory test p less found s all inv h i = tt
row_fails (errors.Refused code rest) test p less found s all inv h i = turn_fails test p less found s (code, rest.now) all inv h i

-- a turn of a loop with a state that fails
pub step_fails : {K X U : Type 0} (f : ReadError K) (test : K → Bool) (step : X → U → X) (q : X → Reader K U) → ((x : X) → Shortens (q x)) → (x : X) (s : List K) (all : Answer K X)
    → all ≡ ended step x (steps test step q x s) → head_is test (first s) ≡ true → Fails f (q x s) → Fails f all
step_fails errors.NoMemory test step q less x s all inv h i = tt
step_fails (errors.Refused code rest) test step q less x s all inv h i = state_fails test step q less x s (code, rest.now) all inv h i

-- behind the first token
pub skip_fails : {K T : Type 0} (f : ReadError K) (test : K → Bool) (p : Reader K T) (s after : List K) → one test s ≡ Ok (tt, after) → Fails f (p after) → Fails f (skip test p s)
skip_fails f test p s after e i = rw e i

pub skip_ok : {K T : Type 0} (test : K → Bool) (p : Reader K T) (s after : List K) (z : T × List K) → one test s ≡ Ok (tt, after) → p after ≡ Ok z → skip test p s ≡ Ok z
skip_ok test p s after z e i = rw e i

-- a token that was taken passes
pub one_next : {K : Type 0} (test : K → Bool) (s rest : List K) → one test s ≡ Ok (tt, rest) → head_is test (first s) ≡ true
one_next test [] rest e = absurd cc
one_next test (c ∷ s) rest e = go (test c) e
  where
    go : (b : Bool) → passed b c s ≡ Ok (tt, rest) → b ≡ true
    go true e = refl
    go false e = absurd cc

-- two changes of the tree are one
pub twice : {K A B C : Type 0} (f : B → C) (g : A → B) (r : Answer K A) → remade f (remade g r) ≡ remade (λ x. f (g x)) r
twice f g (Ok x) = refl
twice f g (Err e) = refl

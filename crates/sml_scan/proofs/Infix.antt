-- Rows of operators, as the code reads them: the first operand, and a loop over operators.
use Rattle.std.proofs.Common.{◌≡◌, ℕ, ◌<◌, Bool, true, false, List, [], ◌∷◌, length, Option, Some, None, Ok, Err, refl, ap, ◌∙◌, inl, inr}
use Rattle.readers.specs.declared.code.Code.{Code}
use Rattle.readers.specs.declared.floor.Floor.{Floor}
use Rattle.readers.specs.declared.fault.ReadError.{ReadError}
use Rattle.readers.specs.declared.fault.ReadError.TheVariants as errors
use Rattle.readers.specs.Reader.{first, head_is, Answer, Reader, ◌>>=◌, mapped, bound, token_by, steps, seen, barred, unless}
use Rattle.readers.specs.Room.{Room}
use Rattle.readers.specs.Given.{Fails}
use Rattle.readers.specs.Infix as rows_of
use Rattle.readers.proofs.Outcome.{ok_of, err_of, ok_is, not_both}
use Rattle.readers.proofs.RowLoop.{Shortens}
use Rattle.readers.proofs.StepLoop.{ended, infix_loop, state_turn, state_end, state_fails}
use Rattle.sml_scan.proofs.Shorter.{Keeps, token_shorter, bound_shorter, guard_shorter}

module _ {K V A E : Type 0} (tight : V → ℕ) (right : V → Bool) (view : K → Option V) (top : E → Option V) (tall : E → ℕ) (leaf : A → E) (node : E → V → E → E) (inner : Floor → Reader K E) (h : Room) (n : Floor) where
  abbrev pub taken : K → Bool
  taken = rows_of.takes tight right view top tall leaf node n

  abbrev pub joined : E → V × E → E
  joined = rows_of.wrap tight right view top tall leaf node

  -- an operator and what stands on its right
  abbrev pub suffix : E → Reader K (V × E)
  suffix = rows_of.suffix_read tight right view top tall leaf node inner h n

  -- the token of an operator
  shows : (c : K) (s r : List K) (v : V) → token_by view (c ∷ s) ≡ Ok (v, r) → view c ≡ Some v
  shows c s r v e = go (view c) e
    where
      go : (o : Option V) → seen o c s ≡ Ok (v, r) → o ≡ Some v
      go None e = absurd cc
      go (Some u) e = let same = ok_is (u, s) (v, r) e in ap (λ (z : V × List K). Some z.0) same

  bar_is : (x : E) (s r : List K) (v : V) → token_by view s ≡ Ok (v, r)
      → barred (rows_of.bar tight right view top tall leaf node h n x) (first s) ≡ rows_of.judge tight right h n (top x) (tall x) v
  bar_is x [] r v e = absurd cc
  bar_is x (c ∷ s) r v e = ap (rows_of.bars tight right view top tall leaf node h n x) (shows c s r v e)

  pub suffix_is : (x : E) (s r : List K) (v : V) (o : Option Code) → token_by view s ≡ Ok (v, r) → rows_of.judge tight right h n (top x) (tall x) v ≡ o
      → suffix x s ≡ unless o s (inner (rows_of.floor_of tight right v) r >>= λ t. Ok ((v, t.0), t.1))
  suffix_is x s r v o e j = rw (bar_is x s r v e ∙ j) (rw e refl)

  module _ (keeps : (m : Floor) → Keeps (inner m)) where
    pub suffix_less : (x : E) → Shortens (suffix x)
    suffix_less x = guard_shorter _ (bound (token_by view) (λ v. inner (rows_of.floor_of tight right v))) (bound_shorter (token_by view) (λ v. inner (rows_of.floor_of tight right v)) (token_shorter view) (λ v. keeps (rows_of.floor_of tight right v)))

    module _ (all : Answer K E) (x : E) (s r : List K) (v : V) (inv : all ≡ ended joined x (steps taken joined suffix x s)) (next : head_is taken (first s) ≡ true) (e : token_by view s ≡ Ok (v, r)) where
      -- one more operator
      pub row_turn : (t : E) (z : List K) → rows_of.judge tight right h n (top x) (tall x) v ≡ None → inner (rows_of.floor_of tight right v) r ≡ Ok (t, z)
          → all ≡ ended joined (node x v t) (steps taken joined suffix (node x v t) z)
      row_turn t z j i = state_turn taken joined suffix suffix_less x s ((v, t), z) all inv next (suffix_is x s r v None e j ∙ rw i refl)

      -- an operator that may not stand here
      pub row_barred : (code : Code) → rows_of.judge tight right h n (top x) (tall x) v ≡ Some code → all ≡ Err (code, s)
      row_barred code j = state_fails taken joined suffix suffix_less x s (code, s) all inv next (suffix_is x s r v (Some code) e j)

      -- no row on its right
      pub row_inner : (f : ReadError K) → rows_of.judge tight right h n (top x) (tall x) v ≡ None → Fails f (inner (rows_of.floor_of tight right v) r) → Fails f all
      row_inner errors.NoMemory j i = tt
      row_inner (errors.Refused code rest) j i = state_fails taken joined suffix suffix_less x s (code, rest.now) all inv next (suffix_is x s r v None e j ∙ rw i refl)

      pub row_less : (t : E) (z : List K) → rows_of.judge tight right h n (top x) (tall x) v ≡ None → inner (rows_of.floor_of tight right v) r ≡ Ok (t, z) → length z < length s
      row_less t z j i = suffix_less x s ((v, t), z) (suffix_is x s r v None e j ∙ rw i refl)

    -- the token that was to be an operator is none
    pub no_operator : (f : ReadError K) (all : Answer K E) (x : E) (s : List K) → all ≡ ended joined x (steps taken joined suffix x s) → head_is taken (first s) ≡ true
        → Fails f (token_by view s) → Fails f all
    no_operator errors.NoMemory all x s inv next e = tt
    no_operator (errors.Refused code rest) all x [] inv next e = absurd cc
    no_operator (errors.Refused code rest) all x (c ∷ s) inv next e = absurd (go (view c) next e)
      where
        go : (o : Option V) → rows_of.seen_by tight right view top tall leaf node (rows_of.reaches tight right n) o ≡ true → seen o c s ≡ Err (code, rest.now) → ⊥
        go None i e = absurd cc
        go (Some u) i e = absurd cc

    pub row_end : (all : Answer K E) (x : E) (s : List K) → all ≡ ended joined x (steps taken joined suffix x s) → head_is taken (first s) ≡ false → all ≡ Ok (x, s)
    row_end all x s inv next = state_end taken joined suffix suffix_less x s all inv next

  -- ---- a row from its first operand on

  module _ (operand : Reader K A) where
    pub row_first : (s r : List K) (x : E) → mapped leaf operand s ≡ Ok (x, r)
        → rows_of.infix_read tight right view top tall leaf node operand inner h n s ≡ ended joined x (steps taken joined suffix x r)
    row_first s r x e =
        let a = ok_of (operand s) (λ y. Ok (leaf y.0, y.1)) (x, r) e in
        let same = ok_is (leaf a.0.0, a.0.1) (x, r) a.2 in
        infix_loop tight right view top tall leaf node operand inner h n s a.0.1 a.0.0 a.1
        ∙ ap (λ (z : E × List K). ended joined z.0 (steps taken joined suffix z.0 z.1)) same

    first_refused : (s : List K) (e : Code × List K) → mapped leaf operand s ≡ Err e → rows_of.infix_read tight right view top tall leaf node operand inner h n s ≡ Err e
    first_refused s e i =
        elim (err_of (operand s) (λ y. Ok (leaf y.0, y.1)) e i) [
          | inl a ↦ rw a refl
          | inr a ↦ not_both (leaf a.0.0, a.0.1) e a.2
        ]

    pub first_fails : (f : ReadError K) (s : List K) → Fails f (mapped leaf operand s) → Fails f (rows_of.infix_read tight right view top tall leaf node operand inner h n s)
    first_fails errors.NoMemory s e = tt
    first_fails (errors.Refused code rest) s e = first_refused s (code, rest.now) e

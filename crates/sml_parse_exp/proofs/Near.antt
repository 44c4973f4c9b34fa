-- Phrases that grow to the right, where not every tree may stand before what follows, as the code reads them.
use Rattle.std.proofs.Common.{◌≡◌, ℕ, ◌<◌, ◌≤◌, Bool, true, false, ltb, List, [], ◌∷◌, Option, Some, None, Ok, Err, refl, ap, ◌∙◌, arith}
use Rattle.std.proofs.lemmas.Bool.{le-ltb, lt-ltb}
use Rattle.readers.specs.declared.code.Code.TheVariants.{Depth, Grammar}
use Rattle.readers.specs.declared.fault.ReadError.{ReadError}
use Rattle.readers.specs.declared.fault.ReadError.TheVariants as errors
use Rattle.readers.specs.Given.{Fails}
use Rattle.readers.specs.Reader.{first, Answer, Reader, ◌>>=◌, head_is, barred, guard, steps}
use Rattle.readers.specs.Forms.{growth, grown, grown_to, grown_once, ended_as, maybe}
use Rattle.readers.proofs.Choice.{remade}
use Rattle.readers.proofs.Guard.{unless_ok}
use Rattle.readers.proofs.RowLoop.{Shortens}
use Rattle.readers.proofs.StepLoop.{ended, state_turn, state_end, state_fails}

abbrev pair_of : {K A B : Type 0} → A → B → List K → Answer K (A × B)
pair_of a b s = Ok ((a, b), s)

module _ {K E U : Type 0} (test : K → Bool) (ready : E → Bool) (tall : E → ℕ) (step : E → U → E) (suffix : Reader K U) (h : ℕ) where
  -- the suffix behind this tree
  abbrev pub next : E → Reader K U
  next x = guard (growth test (ready x) (tall x) h) suffix

  low : (x : E) (s : List K) → head_is test (first s) ≡ true → ready x ≡ true → tall x ≤ h → next x s ≡ suffix s
  low x [] i r le = absurd cc
  low x (c ∷ s) i r le = let f : ltb h (tall x) ≡ false = le-ltb h (tall x) le in rw i (rw r (rw f refl))

  high : (x : E) (s : List K) → head_is test (first s) ≡ true → ready x ≡ true → h < tall x → next x s ≡ Err (Depth, s)
  high x [] i r lt = absurd cc
  high x (c ∷ s) i r lt = let f : ltb h (tall x) ≡ true = lt-ltb h (tall x) lt in rw i (rw r (rw f refl))

  barred_here : (x : E) (s : List K) → head_is test (first s) ≡ true → ready x ≡ false → next x s ≡ Err (Grammar, s)
  barred_here x [] i r = absurd cc
  barred_here x (c ∷ s) i r = rw i (rw r refl)

  module _ (less : Shortens suffix) where
    next_less : (x : E) → Shortens (next x)
    next_less x s z e = less s z (unless_ok (barred (growth test (ready x) (tall x) h) (first s)) s (suffix s) z e).1

    pub near_end : (x : E) (s : List K) (all : Answer K E) → all ≡ ended step x (steps test step next x s) → head_is test (first s) ≡ false → all ≡ Ok (x, s)
    near_end x s all inv i = state_end test step next next_less x s all inv i

    module _ (x : E) (s : List K) (all : Answer K E) (inv : all ≡ ended step x (steps test step next x s)) (i : head_is test (first s) ≡ true) where
      pub near_barred : ready x ≡ false → all ≡ Err (Grammar, s)
      near_barred r = state_fails test step next next_less x s (Grammar, s) all inv i (barred_here x s i r)

      module _ (r : ready x ≡ true) where
        pub near_turn : (z : U × List K) → tall x ≤ h → suffix s ≡ Ok z → all ≡ ended step (step x z.0) (steps test step next (step x z.0) z.1)
        near_turn z le e = state_turn test step next next_less x s z all inv i (low x s i r le ∙ e)

        pub near_deep : h < tall x → all ≡ Err (Depth, s)
        near_deep lt = state_fails test step next next_less x s (Depth, s) all inv i (high x s i r lt)

        -- a suffix that fails
        pub near_fails : (f : ReadError K) → tall x ≤ h → Fails f (suffix s) → Fails f all
        near_fails errors.NoMemory le e = tt
        near_fails (errors.Refused code rest) le e = state_fails test step next next_less x s (code, rest.now) all inv i (low x s i r le ∙ e)

  -- ---- from the first phrase on

  module _ (base : Reader K E) where
    abbrev grow : Answer K E → Answer K E
    grow a = remade (grown_to step) (a >>= λ y. steps test step next y.0 y.1 >>= λ z. pair_of y.0 z.0 z.1)

    pub grown_start : (s r : List K) (x : E) → base s ≡ Ok (x, r) → grown test ready tall step base suffix h s ≡ ended step x (steps test step next x r)
    grown_start s r x e = ap grow e ∙ go (steps test step next x r)
      where
        go : (a : Answer K (List U)) → remade (grown_to step) (a >>= λ z. pair_of x z.0 z.1) ≡ ended step x a
        go (Ok z) = refl
        go (Err d) = refl

    pub grown_no_base : (f : ReadError K) (s : List K) → Fails f (base s) → Fails f (grown test ready tall step base suffix h s)
    grown_no_base errors.NoMemory s e = tt
    grown_no_base (errors.Refused code rest) s e = ap grow e

    abbrev grow_once : Answer K E → Answer K E
    grow_once a = remade (ended_as step) (a >>= λ y. maybe test 0 (next y.0) h y.1 >>= λ z. pair_of y.0 z.0 z.1)

    pub once_no_base : (f : ReadError K) (s : List K) → Fails f (base s) → Fails f (grown_once test ready tall step base suffix h s)
    once_no_base errors.NoMemory s e = tt
    once_no_base (errors.Refused code rest) s e = ap grow_once e

  -- ---- one suffix at most

  module _ (base : Reader K E) (s r : List K) (x : E) (e : base s ≡ Ok (x, r)) where
    abbrev whole : Answer K E
    whole = grown_once test ready tall step base suffix h s

    once_behind : whole ≡ remade (λ o. ended_as step (x, o)) (maybe test 0 (next x) h r)
    once_behind = ap (λ (a : Answer K E). remade (ended_as step) (a >>= λ y. maybe test 0 (next y.0) h y.1 >>= λ z. pair_of y.0 z.0 z.1)) e ∙ go (maybe test 0 (next x) h r)
      where
        go : (a : Answer K (Option U)) → remade (ended_as step) (a >>= λ z. pair_of x z.0 z.1) ≡ remade (λ o. ended_as step (x, o)) a
        go (Ok z) = refl
        go (Err d) = refl

    pub once_none : head_is test (first r) ≡ false → whole ≡ Ok (x, r)
    once_none i = once_behind ∙ rw i refl

    module _ (i : head_is test (first r) ≡ true) where
      opened : whole ≡ remade (step x) (next x r)
      opened = let none : ltb h 0 ≡ false = le-ltb h 0 (omega arith) in once_behind ∙ rw i (rw none (go (next x r)))
        where
          go : (a : Answer K U) → remade (λ o. ended_as step (x, o)) (remade (λ u. Some u) a) ≡ remade (step x) a
          go (Ok z) = refl
          go (Err d) = refl

      pub once_barred : ready x ≡ false → whole ≡ Err (Grammar, r)
      once_barred j = opened ∙ ap (remade (step x)) (barred_here x r i j)

      pub once_deep : ready x ≡ true → h < tall x → whole ≡ Err (Depth, r)
      once_deep j lt = opened ∙ ap (remade (step x)) (high x r i j lt)

      -- the suffix
      pub once_more : ready x ≡ true → tall x ≤ h → whole ≡ remade (step x) (suffix r)
      once_more j le = opened ∙ ap (remade (step x)) (low x r i j le)

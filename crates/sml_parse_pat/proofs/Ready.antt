-- Rows with a token between, where not every item may stand before it, as a loop reads them.
use Rattle.std.proofs.Common.{◌≡◌, ℕ, ◌<◌, Bool, true, false, max, map, List, [], ◌∷◌, ◌++◌, length, Some, None, Ok, Err, refl, sym, ap, ◌∙◌, if◌then◌else◌}
use Rattle.readers.specs.declared.code.Code.TheVariants.{Grammar}
use Rattle.readers.specs.declared.fault.ReadError.{ReadError}
use Rattle.readers.specs.declared.fault.ReadError.TheVariants as errors
use Rattle.readers.specs.Given.{Fails}
use Rattle.readers.specs.Reader.{first, Answer, Reader, ◌>>=◌, head_is, one, skip, mapped, steps}
use Rattle.readers.specs.Forms.{highest, latest, further, ready_read, cons_of}
use Rattle.readers.proofs.RowLoop.{Shortens}
use Rattle.readers.proofs.StepLoop.{steps_more, steps_done, steps_fail}
use Rattle.sml_scan.specs.Rows.{summed}
use Rattle.sml_scan.proofs.Rows.{gathered, front, none}
use Rattle.sml_scan.proofs.Shorter.{guard_shorter}

-- ---- rows of items with heights

-- what is still to come behind this item
abbrev pub behind_item : {K T : Type 0} → (K → Bool) → (T → Bool) → Reader K T → T → Reader K (List T)
behind_item sep ready p y = steps sep latest (further sep ready p) y

-- the item that was read last, whether another one may follow it, and what is still to come
pub record Reading {K T S : Type 0} (tree : T → S) (tall : T → ℕ) (sep : K → Bool) (ready : T → Bool) (p : Reader K T) (found : List S) (n : ℕ) (b : Bool) (s : List K) (all : Answer K (List S × ℕ)) : Type 0 where
  pub last : T
  pub goes : ready last ≡ b
  pub whole : all ≡ gathered tree tall found n (behind_item sep ready p last s)

pub further_less : {K T : Type 0} (sep : K → Bool) (ready : T → Bool) (p : Reader K T) → Shortens (skip sep p) → (y : T) → Shortens (further sep ready p y)
further_less sep ready p less y = guard_shorter (λ c. if ready y then None else Some Grammar) (skip sep p) less

abbrev pair_of : {K T : Type 0} → T × List T → List K → Answer K (T × List T)
pair_of x t = Ok (x, t)

abbrev row_of : {K T : Type 0} → List T → List K → Answer K (List T)
row_of x t = Ok (x, t)

module _ {K T S : Type 0} (tree : T → S) (tall : T → ℕ) where
  abbrev gave : List S → ℕ → List K → Answer K (List S × ℕ)
  gave found n s = Ok ((found, n), s)

  module _ (sep : K → Bool) (ready : T → Bool) (p : Reader K T) where
    pub ready_first : (s : List K) (z : T × List K) (b : Bool) → p s ≡ Ok z → b ≡ ready z.0 → Reading tree tall sep ready p (tree z.0 ∷ []) (tall z.0) b z.1 (mapped (summed tree tall) (ready_read sep ready p) s)
    ready_first s z b e i = record { last = z.0; goes = sym i; whole = rw e (go (behind_item sep ready p z.0 z.1)) }
      where
        go : (r : Answer K (List T)) → (((r >>= λ y. pair_of (z.0, y.0) y.1) >>= λ x. row_of (cons_of x.0) x.1) >>= λ x. gave (map tree x.0) (highest tall x.0) x.1) ≡ gathered tree tall (tree z.0 ∷ []) (tall z.0) r
        go (Ok y) = refl
        go (Err e) = refl

    module _ (less : Shortens (skip sep p)) where
      abbrev item_less : (y : T) → Shortens (further sep ready p y)
      item_less y = further_less sep ready p less y

      opened : (y : T) (s after : List K) → ready y ≡ true → one sep s ≡ Ok (tt, after) → further sep ready p y s ≡ p after
      opened y [] after i o = absurd cc
      opened y (c ∷ s) after i o = rw i (rw o refl)

      module _ (found : List S) (n : ℕ) (b : Bool) (s : List K) (all : Answer K (List S × ℕ)) (r : Reading tree tall sep ready p found n b s all) (h : head_is sep (first s) ≡ true) where
        pub ready_turn : (after : List K) (z : T × List K) (d : Bool) → b ≡ true → one sep s ≡ Ok (tt, after) → p after ≡ Ok z → d ≡ ready z.0 → Reading tree tall sep ready p (found ++ tree z.0 ∷ []) (max n (tall z.0)) d z.1 all
        ready_turn after z d i o e j = record {
          last = z.0;
          goes = sym j;
          whole = r.whole ∙ (ap (gathered tree tall found n) (steps_more sep latest (further sep ready p) item_less r.last s z h (opened r.last s after (r.goes ∙ i) o ∙ e)) ∙ front tree tall found n z.0 (behind_item sep ready p z.0 z.1));
        }

        pub ready_barred : b ≡ false → all ≡ Err (Grammar, s)
        ready_barred i = r.whole ∙ ap (gathered tree tall found n) (steps_fail sep latest (further sep ready p) item_less r.last s (Grammar, s) h (shut s h))
          where
            shut : (s : List K) → head_is sep (first s) ≡ true → further sep ready p r.last s ≡ Err (Grammar, s)
            shut [] h = absurd cc
            shut (c ∷ s) h = rw (r.goes ∙ i) refl

        pub ready_item_fails : (f : ReadError K) (after : List K) → b ≡ true → one sep s ≡ Ok (tt, after) → Fails f (p after) → Fails f all
        ready_item_fails errors.NoMemory after i o e = tt
        ready_item_fails (errors.Refused code rest) after i o e =
            r.whole ∙ ap (gathered tree tall found n) (steps_fail sep latest (further sep ready p) item_less r.last s (code, rest.now) h (opened r.last s after (r.goes ∙ i) o ∙ e))

      pub ready_smaller : (s after : List K) (z : T × List K) → one sep s ≡ Ok (tt, after) → p after ≡ Ok z → length z.1 < length s
      ready_smaller s after z o e = less s z (rw o e)

      pub ready_end : (found : List S) (n : ℕ) (b : Bool) (s : List K) (all : Answer K (List S × ℕ)) → Reading tree tall sep ready p found n b s all → head_is sep (first s) ≡ false → all ≡ Ok ((found, n), s)
      ready_end found n b s all r h = r.whole ∙ (ap (gathered tree tall found n) (steps_done sep latest (further sep ready p) item_less r.last s h) ∙ none tree tall found n s)

    pub ready_first_fails : (f : ReadError K) (s : List K) → Fails f (p s) → Fails f (mapped (summed tree tall) (ready_read sep ready p) s)
    ready_first_fails errors.NoMemory s e = tt
    ready_first_fails (errors.Refused code rest) s e = rw e refl

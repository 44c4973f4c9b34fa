-- Rows of items with heights, as a loop reads them.
use Rattle.std.proofs.Common.{◌≡◌, ℕ, ◌<◌, Bool, true, false, max, map, List, [], ◌∷◌, ◌++◌, length, Ok, Err, refl, sym, ap, ◌∙◌, append_assoc, arith}
use Rattle.std.proofs.lemmas.List.{append-nil}
use Rattle.readers.specs.declared.code.Code.{Code}
use Rattle.readers.specs.declared.fault.ReadError.{ReadError}
use Rattle.readers.specs.declared.fault.ReadError.TheVariants as errors
use Rattle.readers.specs.Given.{Fails}
use Rattle.readers.specs.Reader.{first, Answer, Reader, ◌>>=◌, head_is, one, skip, row, with_front}
use Rattle.readers.specs.Forms.{highest}
use Rattle.readers.proofs.RowLoop.{Shortens, row_more, row_done, row_fails}

abbrev gave : {K S : Type 0} → List S → ℕ → List K → Answer K (List S × ℕ)
gave found n s = Ok ((found, n), s)

module _ {K T S : Type 0} (tree : T → S) (tall : T → ℕ) where
  -- what was found, and what is still to come
  abbrev pub gathered : List S → ℕ → Answer K (List T) → Answer K (List S × ℕ)
  gathered found n r = r >>= λ y. Ok ((found ++ map tree y.0, max n (highest tall y.0)), y.1)

  pub front : (found : List S) (n : ℕ) (z : T) (r : Answer K (List T)) → gathered found n (with_front (z ∷ []) r) ≡ gathered (found ++ tree z ∷ []) (max n (tall z)) r
  front found n z (Ok y) =
      let same : max n (max (tall z) (highest tall y.0)) ≡ max (max n (tall z)) (highest tall y.0) = omega arith in
      ap (λ (l : List S). gave l (max n (max (tall z) (highest tall y.0))) y.1) (sym (append_assoc found (tree z ∷ []) (map tree y.0)))
      ∙ ap (λ (m : ℕ). gave ((found ++ tree z ∷ []) ++ map tree y.0) m y.1) same
  front found n z (Err e) = refl

  pub none : (found : List S) (n : ℕ) (s : List K) → gathered found n (Ok ([], s)) ≡ Ok ((found, n), s)
  none found n s =
      let same : max n 0 ≡ n = omega arith in
      ap (λ (l : List S). gave l (max n 0) s) (append-nil found) ∙ ap (λ (m : ℕ). gave found m s) same

  module _ (sep : K → Bool) (p : Reader K T) (less : Shortens (skip sep p)) where
    -- one more item, the end, and an item that fails
    pub seps_turn : (found : List S) (n : ℕ) (s after : List K) (z : T × List K) (all : Answer K (List S × ℕ)) → all ≡ gathered found n (row sep (skip sep p) s) → head_is sep (first s) ≡ true
        → one sep s ≡ Ok (tt, after) → p after ≡ Ok z → all ≡ gathered (found ++ tree z.0 ∷ []) (max n (tall z.0)) (row sep (skip sep p) z.1)
    seps_turn found n s after z all inv h o e =
        let item : skip sep p s ≡ Ok z = rw o e in
        inv ∙ (ap (gathered found n) (row_more sep (skip sep p) less s z h item) ∙ front found n z.0 (row sep (skip sep p) z.1))

    pub seps_smaller : (s after : List K) (z : T × List K) → one sep s ≡ Ok (tt, after) → p after ≡ Ok z → length z.1 < length s
    seps_smaller s after z o e = less s z (rw o e)

    pub seps_end : (found : List S) (n : ℕ) (s : List K) (all : Answer K (List S × ℕ)) → all ≡ gathered found n (row sep (skip sep p) s) → head_is sep (first s) ≡ false → all ≡ Ok ((found, n), s)
    seps_end found n s all inv h = inv ∙ (ap (gathered found n) (row_done sep (skip sep p) less s h) ∙ none found n s)

    pub seps_item_fails : (f : ReadError K) (found : List S) (n : ℕ) (s after : List K) (all : Answer K (List S × ℕ)) → all ≡ gathered found n (row sep (skip sep p) s) → head_is sep (first s) ≡ true
        → one sep s ≡ Ok (tt, after) → Fails f (p after) → Fails f all
    seps_item_fails errors.NoMemory found n s after all inv h o e = tt
    seps_item_fails (errors.Refused code rest) found n s after all inv h o e =
        let item : skip sep p s ≡ Err (code, rest.now) = rw o e in
        inv ∙ ap (gathered found n) (row_fails sep (skip sep p) less s (code, rest.now) h item)

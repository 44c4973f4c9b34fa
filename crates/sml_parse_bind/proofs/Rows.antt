-- Rows without a token between, and rows whose items have no heights, as loops read them.
use Rattle.std.proofs.Common.{◌≡◌, ℕ, Bool, true, false, max, map, List, [], ◌∷◌, ◌++◌, Ok, Err, refl, sym, ap, ◌∙◌, append_assoc, arith}
use Rattle.std.proofs.lemmas.List.{append-nil}
use Rattle.readers.specs.declared.fault.ReadError.{ReadError}
use Rattle.readers.specs.declared.fault.ReadError.TheVariants as errors
use Rattle.readers.specs.Given.{Fails}
use Rattle.readers.specs.Reader.{first, Answer, Reader, head_is, one, skip, row, with_front}
use Rattle.readers.specs.Forms.{highest}
use Rattle.readers.proofs.RowLoop.{Shortens, row_more, row_done, row_fails, turn, turn_fails}
use Rattle.sml_scan.proofs.Rows.{gathered}

abbrev gave : {K S : Type 0} → List S → ℕ → List K → Answer K (List S × ℕ)
gave found n s = Ok ((found, n), s)

-- ---- items with heights, and no token between

module _ {K T S : Type 0} (tree : T → S) (tall : T → ℕ) where
  pub front : (found : List S) (n : ℕ) (z : T) (r : Answer K (List T)) → gathered tree tall found n (with_front (z ∷ []) r) ≡ gathered tree tall (found ++ tree z ∷ []) (max n (tall z)) r
  front found n z (Ok y) =
      let same : max n (max (tall z) (highest tall y.0)) ≡ max (max n (tall z)) (highest tall y.0) = omega arith in
      ap (λ (l : List S). gave l (max n (max (tall z) (highest tall y.0))) y.1) (sym (append_assoc found (tree z ∷ []) (map tree y.0)))
      ∙ ap (λ (m : ℕ). gave ((found ++ tree z ∷ []) ++ map tree y.0) m y.1) same
  front found n z (Err e) = refl

  pub none : (found : List S) (n : ℕ) (s : List K) → gathered tree tall found n (Ok ([], s)) ≡ Ok ((found, n), s)
  none found n s =
      let same : max n 0 ≡ n = omega arith in
      ap (λ (l : List S). gave l (max n 0) s) (append-nil found) ∙ ap (λ (m : ℕ). gave found m s) same

  module _ (test : K → Bool) (p : Reader K T) (less : Shortens p) where
    -- one more item, the end, and an item that fails
    pub row_turn : (found : List S) (n : ℕ) (s : List K) (z : T × List K) (all : Answer K (List S × ℕ)) → all ≡ gathered tree tall found n (row test p s) → head_is test (first s) ≡ true → p s ≡ Ok z
        → all ≡ gathered tree tall (found ++ tree z.0 ∷ []) (max n (tall z.0)) (row test p z.1)
    row_turn found n s z all inv h e = inv ∙ (ap (gathered tree tall found n) (row_more test p less s z h e) ∙ front found n z.0 (row test p z.1))

    pub row_end : (found : List S) (n : ℕ) (s : List K) (all : Answer K (List S × ℕ)) → all ≡ gathered tree tall found n (row test p s) → head_is test (first s) ≡ false → all ≡ Ok ((found, n), s)
    row_end found n s all inv h = inv ∙ (ap (gathered tree tall found n) (row_done test p less s h) ∙ none found n s)

    pub row_item_fails : (f : ReadError K) (found : List S) (n : ℕ) (s : List K) (all : Answer K (List S × ℕ)) → all ≡ gathered tree tall found n (row test p s) → head_is test (first s) ≡ true → Fails f (p s) → Fails f all
    row_item_fails errors.NoMemory found n s all inv h e = tt
    row_item_fails (errors.Refused code rest) found n s all inv h e = inv ∙ ap (gathered tree tall found n) (row_fails test p less s (code, rest.now) h e)

-- ---- items without heights

module _ {K T : Type 0} (test : K → Bool) (p : Reader K T) (less : Shortens p) where
  pub plain_fails : (f : ReadError K) (found : List T) (s : List K) (all : Answer K (List T)) → all ≡ with_front found (row test p s) → head_is test (first s) ≡ true → Fails f (p s) → Fails f all
  plain_fails errors.NoMemory found s all inv h e = tt
  plain_fails (errors.Refused code rest) found s all inv h e = turn_fails test p less found s (code, rest.now) all inv h e

-- the same behind a token
module _ {K T : Type 0} (sep : K → Bool) (p : Reader K T) (less : Shortens (skip sep p)) where
  pub plain_turn : (found : List T) (s after : List K) (z : T × List K) (all : Answer K (List T)) → all ≡ with_front found (row sep (skip sep p) s) → head_is sep (first s) ≡ true → one sep s ≡ Ok (tt, after) → p after ≡ Ok z
      → all ≡ with_front (found ++ z.0 ∷ []) (row sep (skip sep p) z.1)
  plain_turn found s after z all inv h o e =
      let item : skip sep p s ≡ Ok z = rw o e in
      turn sep (skip sep p) less found s z all inv h item

  pub plain_item_fails : (f : ReadError K) (found : List T) (s after : List K) (all : Answer K (List T)) → all ≡ with_front found (row sep (skip sep p) s) → head_is sep (first s) ≡ true → one sep s ≡ Ok (tt, after) → Fails f (p after) → Fails f all
  plain_item_fails errors.NoMemory found s after all inv h o e = tt
  plain_item_fails (errors.Refused code rest) found s after all inv h o e =
      let item : skip sep p s ≡ Err (code, rest.now) = rw o e in
      turn_fails sep (skip sep p) less found s (code, rest.now) all inv h item

-- Rows of phrases that are seen as trees with heights, before or after the row is read.
use Rattle.std.proofs.Common.{◌≡◌, ℕ, zero, suc, Bool, true, false, cond, max, map, List, [], ◌∷◌, length, Ok, Err, refl, sym, ap, ◌∙◌}
use Rattle.readers.specs.declared.code.Code.{Code}
use Rattle.readers.specs.declared.fault.ReadError.{ReadError}
use Rattle.readers.specs.declared.fault.ReadError.TheVariants as errors
use Rattle.readers.specs.Given.{Fails}
use Rattle.readers.specs.Reader.{first, head_is, Answer, Reader, ◌>>=◌, mapped, one, skip, row_by, row}
use Rattle.readers.specs.Forms.{highest, seps, cons_of}
use Rattle.readers.proofs.Choice.{remade}
use Rattle.sml_scan.specs.Rows.{summed}

abbrev pub part_tree : {S : Type 0} → S × ℕ → S
part_tree y = y.0

abbrev pub part_height : {S : Type 0} → S × ℕ → ℕ
part_height y = y.1

abbrev pub tree_of : {T S : Type 0} → (T → S × ℕ) → T → S
tree_of f x = (f x).0

abbrev pub tall_of : {T S : Type 0} → (T → S × ℕ) → T → ℕ
tall_of f x = (f x).1

-- what fails, where the same is given
pub fails_as : {K T : Type 0} (f : ReadError K) (a b : Answer K T) → a ≡ b → Fails f b → Fails f a
fails_as errors.NoMemory a b e i = tt
fails_as (errors.Refused code rest) a b e i = e ∙ i

trees_same : {T S : Type 0} (f : T → S × ℕ) (xs : List T) → map part_tree (map f xs) ≡ map (tree_of f) xs
trees_same f [] = refl
trees_same f (x ∷ xs) = ap (λ (l : List _). tree_of f x ∷ l) (trees_same f xs)

talls_same : {T S : Type 0} (f : T → S × ℕ) (xs : List T) → highest part_height (map f xs) ≡ highest (tall_of f) xs
talls_same f [] = refl
talls_same f (x ∷ xs) = ap (λ (n : ℕ). max (tall_of f x) n) (talls_same f xs)

module _ {K T S : Type 0} (f : T → S × ℕ) where
  abbrev row_of : List T → List K → Answer K (List T)
  row_of xs s = Ok (xs, s)

  abbrev seen_row : List (S × ℕ) → List K → Answer K (List (S × ℕ))
  seen_row xs s = Ok (xs, s)

  abbrev pair_of : T × List T → List K → Answer K (T × List T)
  pair_of x z = Ok (x, z)

  abbrev seen_pair : (S × ℕ) × List (S × ℕ) → List K → Answer K ((S × ℕ) × List (S × ℕ))
  seen_pair x z = Ok (x, z)

  abbrev sum_of : List S → ℕ → List K → Answer K (List S × ℕ)
  sum_of xs n s = Ok ((xs, n), s)

  module _ (sep : K → Bool) (p : Reader K T) where
    -- one more in front
    more : (x : T) (r : Answer K (List T)) (q : Answer K (List (S × ℕ))) → remade (map f) r ≡ q → remade (map f) (r >>= λ z. row_of (x ∷ z.0) z.1) ≡ (q >>= λ z. seen_row (f x ∷ z.0) z.1)
    more x (Ok z) q e = ap (λ (y : Answer K (List (S × ℕ))). y >>= λ z. seen_row (f x ∷ z.0) z.1) e
    more x (Err d) q e = ap (λ (y : Answer K (List (S × ℕ))). y >>= λ z. seen_row (f x ∷ z.0) z.1) e

    row_seen : (n : ℕ) (s : List K) → remade (map f) (row_by sep (skip sep p) n s) ≡ row_by sep (skip sep (mapped f p)) n s
    unfolding row_by
    row_seen zero s = refl
    row_seen (suc n) s = go (row_seen n) (head_is sep (first s)) (one sep s)
      where
        item : ((z : List K) → remade (map f) (row_by sep (skip sep p) n z) ≡ row_by sep (skip sep (mapped f p)) n z)
            → (r : Answer K T) → remade (map f) (r >>= λ x. row_by sep (skip sep p) n x.1 >>= λ y. row_of (x.0 ∷ y.0) y.1) ≡ (remade f r >>= λ x. row_by sep (skip sep (mapped f p)) n x.1 >>= λ y. seen_row (x.0 ∷ y.0) y.1)
        item ih (Ok x) = more x.0 (row_by sep (skip sep p) n x.1) (row_by sep (skip sep (mapped f p)) n x.1) (ih x.1)
        item ih (Err e) = refl

        go : ((z : List K) → remade (map f) (row_by sep (skip sep p) n z) ≡ row_by sep (skip sep (mapped f p)) n z)
            → (b : Bool) (r : Answer K (Unit {0}))
            → remade (map f) (cond b ((r >>= λ x. p x.1) >>= λ x. row_by sep (skip sep p) n x.1 >>= λ y. row_of (x.0 ∷ y.0) y.1) (row_of [] s))
            ≡ cond b ((r >>= λ x. mapped f p x.1) >>= λ x. row_by sep (skip sep (mapped f p)) n x.1 >>= λ y. seen_row (x.0 ∷ y.0) y.1) (seen_row [] s)
        go ih false r = refl
        go ih true (Ok x) = item ih (p x.1)
        go ih true (Err e) = refl

    seps_row : (s : List K) → remade (map f) (seps sep p s) ≡ seps sep (mapped f p) s
    seps_row s = go (p s)
      where
        last : (x : T) (r : Answer K (List T)) (q : Answer K (List (S × ℕ))) → remade (map f) r ≡ q
            → remade (map f) (remade cons_of (r >>= λ y. pair_of (x, y.0) y.1)) ≡ remade cons_of (q >>= λ y. seen_pair (f x, y.0) y.1)
        last x (Ok z) q e = ap (λ (y : Answer K (List (S × ℕ))). remade cons_of (y >>= λ y. seen_pair (f x, y.0) y.1)) e
        last x (Err d) q e = ap (λ (y : Answer K (List (S × ℕ))). remade cons_of (y >>= λ y. seen_pair (f x, y.0) y.1)) e

        go : (r : Answer K T) → remade (map f) (remade cons_of (r >>= λ x. row sep (skip sep p) x.1 >>= λ y. pair_of (x.0, y.0) y.1)) ≡ remade cons_of (remade f r >>= λ x. row sep (skip sep (mapped f p)) x.1 >>= λ y. seen_pair (x.0, y.0) y.1)
        go (Ok x) = last x.0 (row sep (skip sep p) x.1) (row sep (skip sep (mapped f p)) x.1) (row_seen (length x.1) x.1)
        go (Err e) = refl

    pub seps_seen : (s : List K) → mapped (summed (tree_of f) (tall_of f)) (seps sep p) s ≡ mapped (summed part_tree part_height) (seps sep (mapped f p)) s
    seps_seen s = go (seps sep p s) ∙ ap (remade (summed part_tree part_height)) (seps_row s)
      where
        go : (r : Answer K (List T)) → remade (summed (tree_of f) (tall_of f)) r ≡ remade (summed part_tree part_height) (remade (map f) r)
        go (Ok z) = ap (λ (l : List S). sum_of l (highest (tall_of f) z.0) z.1) (sym (trees_same f z.0)) ∙ ap (λ (n : ℕ). sum_of (map part_tree (map f z.0)) n z.1) (sym (talls_same f z.0))
        go (Err e) = refl

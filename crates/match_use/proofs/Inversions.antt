-- How often a matrix splits, by how its first column is taken apart.
use Rattle.std.proofs.Common.{◌≡◌, ℕ, suc, List, [], ◌∷◌, map, Bool, true, false, not, refl, sym, ap, ◌∙◌, subst, arith}
use Rattle.std.specs.Prelude.{All}
use Rattle.std.specs.List.{list_all, filter_map}
use Rattle.std.proofs.lemmas.Bool.{and_parts, both_ways}
use Rattle.sml_static.specs.Shapes.{Pattern, Wild, Parts, Cell, Literal, Made}
use Rattle.sml_static.specs.Exhaustive.{Head, Splits, no_rows, no_columns, wild, parts, cell, split, SplitsOfAll, begins_wild, opens_parts, opens_cell, without_first, parts_opened, cell_opened, head_of, heads, once, split_by}

-- a matrix whose rows all begin with wildcards has no head
no_heads : (rows : List (List Pattern)) → list_all begins_wild rows ≡ true → filter_map head_of rows ≡ []
no_heads [] e = refl
no_heads ([] ∷ rows) e = cc
no_heads ((Wild ∷ ps) ∷ rows) e = no_heads rows e
no_heads ((Parts p q ∷ ps) ∷ rows) e = cc
no_heads ((Cell p ∷ ps) ∷ rows) e = cc
no_heads ((Literal l ∷ ps) ∷ rows) e = cc
no_heads ((Made k n p ∷ ps) ∷ rows) e = cc

no_heads-parts : (rows : List (List Pattern)) → list_all opens_parts rows ≡ true → filter_map head_of rows ≡ []
no_heads-parts [] e = refl
no_heads-parts ([] ∷ rows) e = cc
no_heads-parts ((Wild ∷ ps) ∷ rows) e = no_heads-parts rows e
no_heads-parts ((Parts p q ∷ ps) ∷ rows) e = no_heads-parts rows e
no_heads-parts ((Cell p ∷ ps) ∷ rows) e = cc
no_heads-parts ((Literal l ∷ ps) ∷ rows) e = cc
no_heads-parts ((Made k n p ∷ ps) ∷ rows) e = cc

no_heads-cell : (rows : List (List Pattern)) → list_all opens_cell rows ≡ true → filter_map head_of rows ≡ []
no_heads-cell [] e = refl
no_heads-cell ([] ∷ rows) e = cc
no_heads-cell ((Wild ∷ ps) ∷ rows) e = no_heads-cell rows e
no_heads-cell ((Cell p ∷ ps) ∷ rows) e = no_heads-cell rows e
no_heads-cell ((Parts p q ∷ ps) ∷ rows) e = cc
no_heads-cell ((Literal l ∷ ps) ∷ rows) e = cc
no_heads-cell ((Made k n p ∷ ps) ∷ rows) e = cc

-- a row with a tuple does not begin with a reference's content
parts_or_cell : (rows : List (List Pattern)) → list_all opens_parts rows ≡ true → list_all opens_cell rows ≡ true → list_all begins_wild rows ≡ true
parts_or_cell [] d e = refl
parts_or_cell ([] ∷ rows) d e = cc
parts_or_cell ((Wild ∷ ps) ∷ rows) d e = parts_or_cell rows d e
parts_or_cell ((Parts p q ∷ ps) ∷ rows) d e = cc
parts_or_cell ((Cell p ∷ ps) ∷ rows) d e = cc
parts_or_cell ((Literal l ∷ ps) ∷ rows) d e = cc
parts_or_cell ((Made k n p ∷ ps) ∷ rows) d e = cc

-- rows without columns have none to begin with
empty_row : (rows : List (List Pattern)) (t : List Pattern → Bool) → t [] ≡ false → All (λ row. row ≡ []) rows → list_all t rows ≡ true → rows ≡ []
empty_row [] t f a e = refl
empty_row (r ∷ rows) t f a e =
    let r_is : r ≡ [] = a 0 [] (omega arith) in
    let h = and_parts (t r) (list_all t rows) e in
    absurd (both_ways (t r) (ap t r_is ∙ f) h.0)

two_ways : {A : Type 0} (b : Bool) → b ≡ true → not b ≡ true → A
two_ways true e f = cc
two_ways false e f = cc

no_such : {A : Type 0} (rows : List (List Pattern)) (h : Head) (hs : List Head) → heads rows ≡ h ∷ hs → filter_map head_of rows ≡ [] → A
no_such rows h hs e f = let g : heads rows ≡ [] = ap (once []) f in cc

pub splits-wild : (rows : List (List Pattern)) (n : ℕ) → list_all begins_wild rows ≡ true → Splits rows n → Splits (map without_first rows) n
splits-wild rows n e no_rows = no_rows
splits-wild rows n e (no_columns a) = subst (λ (r : List (List Pattern)). Splits (map without_first r) 0) (sym (empty_row rows begins_wild refl a e)) no_rows
splits-wild rows n e (wild w s) = s
splits-wild rows n e (parts p w s) = two_ways _ e w
splits-wild rows n e (cell p w s) = two_ways _ e w
splits-wild rows n e (split {h = h} {hs = hs} f s) = no_such rows h hs f (no_heads rows e)

pub splits-parts : (rows : List (List Pattern)) (n : ℕ) → list_all opens_parts rows ≡ true → not (list_all begins_wild rows) ≡ true → Splits rows n → Splits (map parts_opened rows) n
splits-parts rows n e v no_rows = no_rows
splits-parts rows n e v (no_columns a) = subst (λ (r : List (List Pattern)). Splits (map parts_opened r) 0) (sym (empty_row rows opens_parts refl a e)) no_rows
splits-parts rows n e v (wild w s) = two_ways _ w v
splits-parts rows n e v (parts p w s) = s
splits-parts rows n e v (cell p w s) = two_ways _ (parts_or_cell rows e p) v
splits-parts rows n e v (split {h = h} {hs = hs} f s) = no_such rows h hs f (no_heads-parts rows e)

pub splits-cell : (rows : List (List Pattern)) (n : ℕ) → list_all opens_cell rows ≡ true → not (list_all begins_wild rows) ≡ true → Splits rows n → Splits (map cell_opened rows) n
splits-cell rows n e v no_rows = no_rows
splits-cell rows n e v (no_columns a) = subst (λ (r : List (List Pattern)). Splits (map cell_opened r) 0) (sym (empty_row rows opens_cell refl a e)) no_rows
splits-cell rows n e v (wild w s) = two_ways _ w v
splits-cell rows n e v (parts p w s) = two_ways _ (parts_or_cell rows p e) v
splits-cell rows n e v (cell p w s) = s
splits-cell rows n e v (split {h = h} {hs = hs} f s) = no_such rows h hs f (no_heads-cell rows e)

-- a head stands in no row that begins with wildcards, tuples or references alone, and in none without columns
pub splits-heads : (rows : List (List Pattern)) (n : ℕ) (h : Head) (hs : List Head) → heads rows ≡ h ∷ hs → Splits rows n → SplitsOfAll rows (split_by (h ∷ hs)) n
splits-heads rows n h hs e no_rows = cc
splits-heads rows n h hs e (no_columns a) = no_such rows h hs e (none_of rows a)
  where
    none_of : (rs : List (List Pattern)) → All (λ row. row ≡ []) rs → filter_map head_of rs ≡ []
    none_of [] a = refl
    none_of (r ∷ rs) a =
        let r_is : r ≡ [] = a 0 [] (omega arith) in
        subst (λ (x : List Pattern). filter_map head_of (x ∷ rs) ≡ []) (sym r_is) (none_of rs (λ k d l. a (suc k) d (omega arith)))
splits-heads rows n h hs e (wild w s) = no_such rows h hs e (no_heads rows w)
splits-heads rows n h hs e (parts p w s) = no_such rows h hs e (no_heads-parts rows p)
splits-heads rows n h hs e (cell p w s) = no_such rows h hs e (no_heads-cell rows p)
splits-heads rows n h hs e (split {h = g} {hs = gs} f s) = subst (λ (x : List Head). SplitsOfAll rows (split_by x) n) (sym f ∙ e) s

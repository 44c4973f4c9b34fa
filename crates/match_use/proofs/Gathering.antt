-- Heads that are gathered row by row.
use Rattle.std.proofs.Math.ListN.{drop_of_length-le}
use Rattle.std.proofs.Common.{◌≡◌, ℕ, suc, ◌+◌, ◌<◌, ◌≤◌, length, get_or, drop, drop-cons, add-one, List, [], ◌∷◌, ◌++◌, reverse, Bool, true, false, ◌||◌, cond, Option, Some, None, refl, sym, ap, ◌∙◌, append_assoc, append-nil}
use Rattle.std.specs.List.{list_all, list_any, filter_map, cons_option}
use Rattle.std.proofs.lemmas.List.{reverse-append}
use Rattle.sml_static.specs.Shapes.{Pattern}
use Rattle.sml_static.specs.Exhaustive.{Head, is_same_head, head_of, heads, once}
use Rattle.std.proofs.lemmas.Bool.{and_parts, and_from}
use Rattle.match_use.specs.Heads.{stands, with_head, OnHead}
use Rattle.match_use.specs.Lines.{lines_of, columns_of, plain}
use Rattle.match_use.specs.declared.row.Row.{Row}

-- heads so far, and those that are new in the rows that are left
unfoldable pub gathered : List Head → List (List Pattern) → List Head
gathered hs rows = hs ++ once (reverse hs) (filter_map head_of rows)

any-append : (t : Head → Bool) (xs : List Head) (y : Head) → list_any t (xs ++ y ∷ []) ≡ (t y || list_any t xs)
any-append t [] y = or_none (t y)
  where
    or_none : (b : Bool) → (b || false) ≡ (b || false)
    or_none b = refl
any-append t (x ∷ xs) y = ap (λ b. t x || b) (any-append t xs y) ∙ swap (t x) (t y) (list_any t xs)
  where
    swap : (a b c : Bool) → (a || (b || c)) ≡ (b || (a || c))
    swap true true c = refl
    swap true false c = refl
    swap false true c = refl
    swap false false c = refl

any-reverse : (t : Head → Bool) (xs : List Head) → list_any t (reverse xs) ≡ list_any t xs
any-reverse t [] = refl
any-reverse t (x ∷ xs) = ap (list_any t) (reverse-append (x ∷ []) xs) ∙ any-append t (reverse xs) x ∙ ap (λ b. t x || b) (any-reverse t xs)

pub reverse-push : {A : Type 0} (xs : List A) (x : A) → reverse (xs ++ x ∷ []) ≡ x ∷ reverse xs
reverse-push xs x = reverse-append xs (x ∷ [])

pub gathered-first : (rows : List (List Pattern)) → gathered [] rows ≡ heads rows
unfolding gathered
gathered-first rows = refl

pub gathered-last : (hs : List Head) → gathered hs [] ≡ hs
unfolding gathered
gathered-last hs = append-nil hs

more : (hs : List Head) (h : Head) (rest : List Head) → hs ++ once (reverse hs) (h ∷ rest) ≡ with_head hs (Some h) ++ once (reverse (with_head hs (Some h))) rest
more hs h rest = ap (λ b. hs ++ cond b (once (reverse hs) rest) (h ∷ once (h ∷ reverse hs) rest)) (any-reverse (is_same_head h) hs) ∙ by (list_any (is_same_head h) hs)
  where
    by : (b : Bool) → hs ++ cond b (once (reverse hs) rest) (h ∷ once (h ∷ reverse hs) rest) ≡ cond b hs (hs ++ h ∷ []) ++ once (reverse (cond b hs (hs ++ h ∷ []))) rest
    by true = refl
    by false = sym (append_assoc hs (h ∷ []) (once (h ∷ reverse hs) rest)) ∙ ap (λ l. (hs ++ h ∷ []) ++ once l rest) (sym (reverse-push hs h))

pub gathered-more : (hs : List Head) (r : List Pattern) (rows : List (List Pattern)) → gathered hs (r ∷ rows) ≡ gathered (with_head hs (head_of r)) rows
unfolding gathered
gathered-more hs r rows = by (head_of r)
  where
    by : (o : Option Head) → hs ++ once (reverse hs) (cons_option o (filter_map head_of rows)) ≡ with_head hs o ++ once (reverse (with_head hs o)) (filter_map head_of rows)
    by None = refl
    by (Some h) = more hs h (filter_map head_of rows)

-- one row more
pub gathered-row : (hs hs' : List Head) (rows rest : List Row) (row : Row) → rows ≡ row ∷ rest → hs' ≡ with_head hs (head_of (columns_of row.columns)) → gathered hs' (plain (lines_of rest)) ≡ gathered hs (plain (lines_of rows))
gathered-row hs hs' rows rest row e f =
    ap (λ (x : List Head). gathered x (plain (lines_of rest))) f ∙ sym (gathered-more hs (columns_of row.columns) (plain (lines_of rest))) ∙ ap (λ (x : List Row). gathered hs (plain (lines_of x))) (sym e)

-- heads that stand, and one more
pub standing-more : (hs : List Head) (o : Option Head) → list_all stands hs ≡ true → OnHead o → list_all stands (with_head hs o) ≡ true
standing-more hs None e f = e
standing-more hs (Some h) e f = by (list_any (is_same_head h) hs)
  where
    pushed : (xs : List Head) → list_all stands xs ≡ true → list_all stands (xs ++ h ∷ []) ≡ true
    pushed [] e = and_from (stands h) true f refl
    pushed (x ∷ xs) e = let a = and_parts (stands x) (list_all stands xs) e in and_from (stands x) _ a.0 (pushed xs a.1)

    by : (b : Bool) → list_all stands (cond b hs (hs ++ h ∷ [])) ≡ true
    by true = e
    by false = pushed hs e

-- the rows that are left, and the next one
pub rows_left : (rows : List Row) (i : ℕ) (row : Row) → i < length rows → row ≡ get_or rows i row → drop i rows ≡ row ∷ drop (i + 1) rows
rows_left rows i row l e = drop-cons rows i row l ∙ ap (λ (x : Row). x ∷ drop (suc i) rows) (sym e) ∙ ap (λ k. row ∷ drop k rows) (sym (add-one i))

pub none_left : (hs : List Head) (rows : List Row) (i : ℕ) → length rows ≤ i → gathered hs (plain (lines_of (drop i rows))) ≡ hs
none_left hs rows i l = ap (λ (x : List Row). gathered hs (plain (lines_of x))) (drop_of_length-le rows l) ∙ gathered-last hs

-- What a binary search finds among rows that increase.
use Rattle.std.proofs.Common.{◌≡◌, ℕ, suc, zero, ◌<◌, ◌≤◌, ◌⊎◌, inl, inr, Bool, true, false, cond, ◌&&◌, List, [], ◌∷◌, length, get_or, refl, sym, ap, subst, ◌∙◌, arith, Some, None, nat_eq, nat_lt}
use borrow.Author.Tests.{ltb-true, ltb-false, eqb-true, eqb-false}
use Rattle.std.specs.Ordering.{nat_cmp, is_lt, is_eq, ordering_index}
use Rattle.std.specs.declared.cmp.Ordering.{Ordering}
use Rattle.std.specs.declared.cmp.Ordering.TheVariants.{Less, Equal, Greater}
use Rattle.std.specs.Cmp.{alike_right}
use Rattle.std.specs.Cmp.Lexicographic.{slice_cmp}
use Rattle.std.specs.List.Sorted.{IsNonDecreasingBy, IsPartitionPoint}
use Rattle.std.specs.Str.{bytes_eq}
use Rattle.std.proofs.lemmas.Cmp.{nat_list_cmp_total}
use Rattle.std.proofs.lemmas.Map.Text.{is_eq-slice_cmp}
use Rattle.tl_cases.specs.declared.row.Row.{Row}
use Rattle.tl_cases.specs.Rows.{pairs_of, increases_from, is_increasing, value_at}

-- how two keys compare, by bytes
abbrev pub order : List ℕ → List ℕ → Ordering
order = slice_cmp nat_cmp

first_true : (a b : Bool) → (a && b) ≡ true → a ≡ true
first_true true b e = refl
first_true false b e = e

second_true : (a b : Bool) → (a && b) ≡ true → b ≡ true
second_true true b e = e
second_true false b e = cc

less_is : (o : Ordering) → is_lt o ≡ true → o ≡ Less
less_is Less e = refl
less_is Equal e = cc
less_is Greater e = cc

-- a test of two keys by how they compare
same_by : (xs ys : List ℕ) (o : Ordering) → order xs ys ≡ o → bytes_eq xs ys ≡ is_eq o
same_by xs ys o e = sym (is_eq-slice_cmp xs ys) ∙ ap is_eq e

-- the key comes before that of each row
above : (key : List ℕ) (rows : List Row) → increases_from key (pairs_of rows) ≡ true → (i : ℕ) (d : Row) → i < length rows → order key (get_or rows i d).key.now ≡ Less
above key [] h i d lt = absurd (omega arith)
above key (x ∷ rows) h zero d lt = less_is _ (first_true _ _ h)
above key (x ∷ rows) h (suc i) d lt =
    nat_list_cmp_total.trans key x.key.now (get_or rows i d).key.now (less_is _ (first_true _ _ h)) (above x.key.now rows (second_true _ _ h) i d (omega arith))

-- the rows behind one that increases from it
behind : (key : List ℕ) (rows : List Row) → increases_from key (pairs_of rows) ≡ true → is_increasing (pairs_of rows) ≡ true
behind key [] h = refl
behind key (x ∷ rows) h = second_true _ _ h

-- an earlier row has the same key or a lesser one
ordered : (rows : List Row) → is_increasing (pairs_of rows) ≡ true → (i j : ℕ) (d : Row) → i < j → j < length rows → order (get_or rows i d).key.now (get_or rows j d).key.now ≡ Less
ordered [] h i j d lt in_range = absurd (omega arith)
ordered (x ∷ rows) h i zero d lt in_range = absurd (omega arith)
ordered (x ∷ rows) h zero (suc j) d lt in_range = above x.key.now rows h j d (omega arith)
ordered (x ∷ rows) h (suc i) (suc j) d lt in_range = ordered rows (behind x.key.now rows h) i j d (omega arith) (omega arith)

-- a row that has the key gives its value
pub present : (rows : List Row) (key : List ℕ) → is_increasing (pairs_of rows) ≡ true → (i : ℕ) (d : Row) → i < length rows → order (get_or rows i d).key.now key ≡ Equal → value_at key (pairs_of rows) ≡ Some (get_or rows i d).value
present [] key h i d lt e = absurd (omega arith)
present (x ∷ rows) key h zero d lt e = ap (λ b. cond b (Some x.value) (value_at key (pairs_of rows))) (same_by x.key.now key Equal e)
present (x ∷ rows) key h (suc i) d lt e =
    let before : order x.key.now (get_or rows i d).key.now ≡ Less = above x.key.now rows h i d (omega arith) in
    let apart : order x.key.now key ≡ Less = sym (alike_right nat_list_cmp_total _ _ x.key.now e) ∙ before in
    ap (λ b. cond b (Some x.value) (value_at key (pairs_of rows))) (same_by x.key.now key Less apart)
    ∙ present rows key (behind x.key.now rows h) i d (omega arith) e

-- where each key compares apart from this one, no row has it
pub absent : (rows : List Row) (key : List ℕ) → ((i : ℕ) (d : Row) → i < length rows → is_eq (order (get_or rows i d).key.now key) ≡ false) → value_at key (pairs_of rows) ≡ None
absent [] key h = refl
absent (x ∷ rows) key h =
    ap (λ b. cond b (Some x.value) (value_at key (pairs_of rows))) (sym (is_eq-slice_cmp x.key.now key) ∙ h 0 x (omega arith))
    ∙ absent rows key (λ i d lt. h (suc i) d (omega arith))

index_most : (o : Ordering) → ordering_index o ≤ 2
index_most Less = omega arith
index_most Equal = omega arith
index_most Greater = omega arith

-- a lesser key compares no greater with a third
index_rises : (x y key : List ℕ) (o : Ordering) → order x y ≡ Less → order y key ≡ o → ordering_index (order x key) ≤ ordering_index o
index_rises x y key Less e f = subst (λ o. ordering_index o ≤ 0) (sym (nat_list_cmp_total.trans x y key e f)) (omega arith)
index_rises x y key Equal e f = subst (λ o. ordering_index o ≤ 1) (sym (sym (alike_right nat_list_cmp_total y key x f) ∙ e)) (omega arith)
index_rises x y key Greater e f = index_most (order x key)

split : (i j : ℕ) → i ≤ j → (i ≡ j) ⊎ (i < j)
split i j le = by (nat_eq i j) refl
  where
    by : (b : Bool) → nat_eq i j ≡ b → (i ≡ j) ⊎ (i < j)
    by true e = inl (eqb-true i j e)
    by false e = inr (omega (arith, eqb-false i j e))

-- the comparisons with a key rise along the rows
pub rises : (rows : List Row) (key : List ℕ) → is_increasing (pairs_of rows) ≡ true → IsNonDecreasingBy (λ row. ordering_index (order row.key.now key)) rows
rises rows key h i j d le in_range = elim (split i j le) [
  | inl e ↦ subst (λ k. ordering_index (order (get_or rows i d).key.now key) ≤ ordering_index (order (get_or rows k d).key.now key)) e (omega arith)
  | inr lt ↦ index_rises (get_or rows i d).key.now (get_or rows j d).key.now key _ (ordered rows h i j d lt in_range) refl
]

-- between the rows before the key and those behind it no row has it
pub in_gap : (rows : List Row) (key : List ℕ) (at : ℕ) → IsPartitionPoint (λ row. order row.key.now key ≡ Less) (λ row. order row.key.now key ≡ Greater) rows at → value_at key (pairs_of rows) ≡ None
in_gap rows key at parted = absent rows key (λ i d lt. by i d lt (nat_lt i at) refl)
  where
    by : (i : ℕ) (d : Row) → i < length rows → (b : Bool) → nat_lt i at ≡ b → is_eq (order (get_or rows i d).key.now key) ≡ false
    by i d lt true e = ap is_eq (parted.0 i d (omega arith) (ltb-true i at e))
    by i d lt false e = ap is_eq (parted.1 i d (omega (arith, ltb-false i at e)) lt)

-- What a look at one matrix changes.
use Rattle.std.proofs.Common.{◌≡◌, ℕ, zero, suc, ◌+◌, ◌-◌, ◌<◌, ◌≤◌, List, [], ◌∷◌, ◌++◌, map, reverse, length, replicate, set, Bool, true, false, Option, Some, None, refl, sym, ap, ◌∙◌, subst, arith, inl, inr, length-append, length-set, ltb, ltb-true, Vec, Global}
use denote.Bor.{Bor}
use Rattle.std.proofs.lemmas.Bool.{and_parts}
use Rattle.match_use.specs.declared.column.Column.{Column}
use Rattle.std.specs.Prelude.{IfOk, Result, Ok, Err}
use Rattle.std.specs.List.{list_all, slice_get, slice_index_or}
use Rattle.sml_static.specs.Shapes.{Pattern}
use Rattle.sml_static.specs.Exhaustive.{Head, Splits, heads, split_by}
use Rattle.match_use.specs.Heads.{stands}
use Rattle.match_use.specs.Lines.{Line, line_of, lines_of, columns_of, plain, all_agree, IsTaken}
use Rattle.match_use.specs.Steps.{first_step, kept_lines}
use Rattle.match_use.specs.Reduced.{IsReduced, IsReady, are_below}
use Rattle.match_use.specs.Progress.{StartsWide, pending, IsMarked, Progress, Visited, IsSplitting}
use Rattle.match_use.specs.declared.row.Row.{Row}
use Rattle.match_use.specs.declared.row.Columns.{Columns}
use Rattle.match_use.specs.declared.row.Columns.TheVariants.{End, More}
use Rattle.match_use.specs.declared.row.Columns.TheFolds.{the_lemmas}
use Rattle.match_use.specs.declared.reduce.Step.TheVariants as step
use Rattle.match_use.proofs.Rows.{columns_of-more}
use Rattle.match_use.proofs.Gathering.{reverse-push}
use Rattle.match_use.proofs.Weights.{among_here}
use Rattle.match_use.proofs.FirstColumn.{IsSplit, is_split}
use Rattle.match_use.proofs.Progressing.{progress-reduced, progress-missed, progress-reached, progress-split, progress-over}

apart : {A : Type 0} → true ≡ false → A
apart e = cc

pub columns_of-end : columns_of End ≡ []
columns_of-end = simp the_lemmas

map-push : (xs : List (Vec Row Global)) (v : Vec Row Global) → map (λ w. lines_of w.items) (xs ++ v ∷ []) ≡ map (λ w. lines_of w.items) xs ++ lines_of v.items ∷ []
map-push [] v = refl
map-push (x ∷ xs) v = ap (λ t. lines_of x.items ∷ t) (map-push xs v)

-- the last matrix is the next one
pub pending-push : (xs : List (Vec Row Global)) (v : Vec Row Global) → pending (xs ++ v ∷ []) ≡ lines_of v.items ∷ pending xs
pending-push xs v = ap reverse (map-push xs v) ∙ reverse-push (map (λ w. lines_of w.items) xs) (lines_of v.items)

-- a matrix in the place of one that means the same
pub visited-reduced : (limit : ℕ) (m m' : List Line) (todo todo' : List (List Line)) (r r' : List Bool) (e e' : Bool) (c c' : ℕ) (go : Bool) → IsReduced m m' → Visited limit m' todo todo' r r' e e' c c' go → Visited limit m todo todo' r r' e e' c c' go
visited-reduced limit m m' todo todo' r r' e e' c c' go red v = record {
  kept = λ g root p. v.kept g root (progress-reduced root m m' todo r e c red p);
  over = λ g root p. v.over g root (progress-reduced root m m' todo r e c red p);
  within = v.within;
  fewer = v.fewer;
  same = v.same;
}

-- no row
pub visited-missed : (limit : ℕ) (m : List Line) (todo : List (List Line)) (r : List Bool) (e : Bool) (c : ℕ) → m ≡ [] → c ≤ limit → Visited limit m todo todo r r e false c c true
visited-missed limit m todo r e c q l = subst (λ (x : List Line). Visited limit x todo todo r r e false c c true) (sym q) (record {
  kept = λ g root p. progress-missed root todo r e c p;
  over = λ g. apart g;
  within = λ g. l;
  fewer = λ g. omega arith;
  same = refl;
})

-- no column
pub visited-reached : (limit : ℕ) (l : Line) (ls : List Line) (todo : List (List Line)) (r : List Bool) (e : Bool) (c : ℕ) → l.columns ≡ [] → c ≤ limit → Visited limit (l ∷ ls) todo todo r (set r l.rule true) e e c c true
visited-reached limit l ls todo r e c q w = record {
  kept = λ g root p. progress-reached root l ls todo r e c q p;
  over = λ g. apart g;
  within = λ g. w;
  fewer = λ g. omega arith;
  same = length-set r l.rule true;
}

-- the first row of a matrix
pub first_row : (rows : List Row) (row : Row) → Some row ≡ slice_get rows 0 → (rest : List Row) × (rows ≡ row ∷ rest)
first_row [] row e = cc
first_row (x ∷ xs) row e = (xs, ap (λ (y : Row). y ∷ xs) (some_is (sym e)))
  where
    some_is : {a b : Row} → Some a ≡ Some b → a ≡ b
    some_is h = cc

pub no_first_row : (rows : List Row) → None ≡ slice_get rows 0 → lines_of rows ≡ []
no_first_row [] e = refl
no_first_row (x ∷ xs) e = cc

pub visited-end : (limit : ℕ) (rows : List Row) (row : Row) (todo : List (List Line)) (r : List Bool) (e : Bool) (c : ℕ) → Some row ≡ slice_get rows 0 → row.columns ≡ End → c ≤ limit
    → Visited limit (lines_of rows) todo todo r (set r row.rule true) e e c c true
visited-end limit rows row todo r e c f q w =
    let x = first_row rows row f in
    subst (λ (y : List Row). Visited limit (lines_of y) todo todo r (set r row.rule true) e e c c true) (sym x.1)
    (visited-reached limit (line_of row) (lines_of x.0) todo r e c (ap columns_of q ∙ columns_of-end) w)

-- the rule of the first row is among the rules
pub rule_below : (k : ℕ) (rows : List Row) (row : Row) → Some row ≡ slice_get rows 0 → are_below k (lines_of rows) → row.rule < k
rule_below k rows row f b =
    let x = first_row rows row f in
    let a = subst (λ (y : List Row). are_below k (lines_of y)) x.1 b in
    ltb-true row.rule k (and_parts (ltb row.rule k) _ a).0

-- a reduced matrix whose first row has a column is to be split
pub splitting : (rows : List Row) (row : Row) (c : Column) (others : Bor Columns) → Some row ≡ slice_get rows 0 → row.columns ≡ More c others → all_agree (plain (lines_of rows)) ≡ true → IsReady (lines_of rows) → IsSplitting (lines_of rows)
splitting rows row c others f q a ready =
    let x = first_row rows row f in
    record {
      agrees = a;
      ready = elim ready.ready [ inl n ↦ (let y : line_of row ∷ lines_of x.0 ≡ [] = ap lines_of (sym x.1) ∙ n in cc) | inr s ↦ s ];
      column = subst (λ (y : List Row). StartsWide (plain (lines_of y))) (sym x.1) (subst (λ (z : List Pattern). StartsWide (z ∷ plain (lines_of x.0))) (sym (ap columns_of q ∙ columns_of-more c others)) tt);
    }

is_split-from : (x : List (List Pattern)) → all_agree x ≡ true → first_step x ≡ step.Ready → StartsWide x → IsSplit x
is_split-from [] a e s = absurd s
is_split-from ([] ∷ rows) a e s = absurd s
is_split-from ((p ∷ ps) ∷ rows) a e s = is_split ((p ∷ ps) ∷ rows) p ps (among_here (p ∷ ps) rows) a e

-- a matrix is split by these heads
pub visited-split : (limit : ℕ) (m : List Line) (hs : List Head) (todo todo' : List (List Line)) (r : List Bool) (e : Bool) (c c' : ℕ) → IsSplitting m → hs ≡ split_by (heads (plain m)) → list_all stands (heads (plain m)) ≡ true
    → c ≤ limit → length hs ≤ limit - c → todo' ≡ map (kept_lines m) hs ++ todo → c' ≡ c + length hs → Visited limit m todo todo' r r e e c c' true
visited-split limit m hs todo todo' r e c c' s by stand w few q u =
    let is = is_split-from (plain m) s.agrees s.ready s.column in
    let same : hs ≡ split_by (is.first ∷ is.others) = by ∙ ap split_by is.heads in
    record {
      kept = λ g root p.
          subst (λ (x : List (List Line)). Progress root x r e c') (sym q)
          (subst (λ n. Progress root (map (kept_lines m) hs ++ todo) r e n) (sym u)
          (subst (λ (x : List Head). Progress root (map (kept_lines m) x ++ todo) r e (c + length x)) (sym same)
          (progress-split root m todo r e c is (subst (λ (x : List Head). list_all stands x ≡ true) is.heads stand) p)));
      over = λ g. apart g;
      within = λ g. omega arith;
      fewer = λ g. (let a = ap length q ∙ length-append (map (kept_lines m) hs) todo in let b = length_map hs in omega arith);
      same = refl;
    }
  where
    length_map : (xs : List Head) → length (map (kept_lines m) xs) ≡ length xs
    length_map [] = refl
    length_map (x ∷ xs) = ap suc (length_map xs)

-- there are too many heads
pub visited-over : (limit : ℕ) (m : List Line) (hs : List Head) (todo : List (List Line)) (r : List Bool) (e : Bool) (c : ℕ) → IsSplitting m → hs ≡ split_by (heads (plain m)) → limit - c < length hs
    → Visited limit m todo todo r r e e c c false
visited-over limit m hs todo r e c s by many =
    let is = is_split-from (plain m) s.agrees s.ready s.column in
    let same : hs ≡ split_by (is.first ∷ is.others) = by ∙ ap split_by is.heads in
    record {
      kept = λ g. apart (sym g);
      over = λ g root p n x. progress-over limit root m todo r e c is (subst (λ (y : List Head). limit < c + length y) same (omega arith)) p n x;
      within = λ g. apart (sym g);
      fewer = λ g. apart (sym g);
      same = refl;
    }

-- the walk begins with the matrix of all rules
none_marked : (k i : ℕ) → slice_index_or (replicate k false) i false ≡ false
none_marked zero i = refl
none_marked (suc k) zero = refl
none_marked (suc k) (suc i) = none_marked k i

length_replicate : (k : ℕ) → length (replicate k false) ≡ k
length_replicate zero = refl
length_replicate (suc k) = ap suc (length_replicate k)

pub progress-start : (k : ℕ) (root : List Line) (r : List Bool) → all_agree (plain root) ≡ true → are_below k root → r ≡ replicate k false → Progress root (root ∷ []) r true 0
progress-start k root r a b q = subst (λ (x : List Bool). Progress root (root ∷ []) x true 0) (sym q) (record {
  good = (record { agrees = a; below = subst (λ n. are_below n root) (sym (length_replicate k)) b; named = λ names n. n }, tt);
  found = λ names n o. (λ t. inr (inl t), λ t. elim t [ inl x ↦ nothing o x | inr x ↦ elim x [ inl y ↦ y | inr y ↦ absurd y ] ]);
  counted = λ n. (λ s. (n, (n, 0, s, refl, omega arith), omega arith), λ x. subst (λ m. Splits (plain root) m) (let u = x.2 in let v = x.1.4 in let w = x.1.3 in omega arith) x.1.2);
})
  where
    nothing : {names : ℕ → List (List ℕ)} (o : Option ℕ) → IsMarked (replicate k false) true o → IsTaken names root o
    nothing None x = apart x
    nothing (Some i) x = let f = none_marked k i in apart (sym x ∙ f)

pub pushed_all : (k : ℕ) (r : List Bool) → r ≡ replicate k false → length r ≡ k
pushed_all k r q = ap length q ∙ length_replicate k

-- what holds of the value of an Ok holds of it in other words
pub if_ok-map : {T E : Type 0} (P Q : T → Type 0) (r : Result T E) → ((x : T) → P x → Q x) → IfOk r P → IfOk r Q
if_ok-map P Q (Ok x) f p = f x p
if_ok-map P Q (Err e) f p = p

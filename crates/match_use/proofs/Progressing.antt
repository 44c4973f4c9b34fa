-- How the walk goes on: a matrix is reduced, found to be missed or reached, or split.
use Rattle.std.proofs.Common.{◌≡◌, ℕ, zero, suc, ◌+◌, ◌<◌, ◌≤◌, List, [], ◌∷◌, ◌++◌, map, length, Bool, true, false, ◌&&◌, ◌||◌, cond, Option, Some, None, refl, sym, ap, ◌∙◌, subst, arith, inl, inr, ◌⊎◌, ltb, ltb-true, get_or-set_same, get_or-set_other, set, get_or, length-set}
use Rattle.std.specs.Prelude.{All}
use Rattle.std.specs.List.{list_all, filter_map}
use Rattle.std.proofs.lemmas.Bool.{and_parts, and_from, cases_eq}
use Rattle.sml_static.specs.Shapes.{Key, Pattern, Wild, Parts, Cell, Literal, Made, is_same_key, is_other_key}
use Rattle.sml_static.specs.Exhaustive.{Head, HeadLiteral, HeadKey, Another, Splits, no_rows, no_columns, wild, parts, cell, split, SplitsOfAll, done, more, head_of, heads, once, split_by, kept_row, are_named, is_named}
use Rattle.match_use.specs.Alike.{agree}
use Rattle.match_use.specs.Heads.{stands}
use Rattle.match_use.specs.Lines.{Line, plain, rows_agree, all_agree, AreNamed, IsTaken, row_hits, row_misses}
use Rattle.match_use.specs.Steps.{line_with, kept_line, kept_lines}
use Rattle.match_use.specs.Reduced.{IsReduced}
use Rattle.match_use.specs.Progress.{TakenIn, Total, IsGood, EachGood, IsMarked, Progress}
use Rattle.match_use.proofs.Tests.{all-filter, pairs-filter}
use Rattle.match_use.proofs.Equal.{same_key-true, other_key-irrefl}
use Rattle.match_use.proofs.Inversions.{splits-heads}
use Rattle.match_use.proofs.Taking.{plain-kept}
use Rattle.match_use.proofs.FirstColumn.{OneOf, IsSplit}
use Rattle.match_use.proofs.Splitting.{taken_split, taken_split_back}

-- a reduced matrix in the place of another
pub progress-reduced : (root m m' : List Line) (todo : List (List Line)) (r : List Bool) (e : Bool) (c : ℕ) → IsReduced m m' → Progress root (m ∷ todo) r e c → Progress root (m' ∷ todo) r e c
progress-reduced root m m' todo r e c red p = record {
  good = (record { agrees = red.agrees; below = red.below (length r) p.good.0.below; named = λ names n. red.named names (p.good.0.named names n) }, p.good.1);
  found = λ names n o. (
    λ t. elim ((p.found names n o).0 t) [ inl a ↦ inl a | inr a ↦ inr (elim a [ inl b ↦ inl ((red.taken names o).0 b) | inr b ↦ inr b ]) ],
    λ t. (p.found names n o).1 (elim t [ inl a ↦ inl a | inr a ↦ inr (elim a [ inl b ↦ inl ((red.taken names o).1 b) | inr b ↦ inr b ]) ]),
  );
  counted = λ n. (
    λ s. let x = (p.counted n).0 s in (x.0, (x.1.0, x.1.1, (red.splits x.1.0).0 x.1.2, x.1.3, x.1.4), x.2),
    λ x. (p.counted n).1 (x.0, (x.1.0, x.1.1, (red.splits x.1.0).1 x.1.2, x.1.3, x.1.4), x.2),
  );
}

-- a matrix without rows splits no more
splits-empty : (n : ℕ) → Splits [] n → n ≡ 0
splits-empty n no_rows = refl
splits-empty n (no_columns a) = refl
splits-empty n (wild w s) = splits-empty n s
splits-empty n (parts p w s) = cc
splits-empty n (cell p w s) = cc
splits-empty n (split f s) = cc

-- shapes miss all rules
pub progress-missed : (root : List Line) (todo : List (List Line)) (r : List Bool) (e : Bool) (c : ℕ) → Progress root ([] ∷ todo) r e c → Progress root todo r false c
progress-missed root todo r e c p = record {
  good = p.good.1;
  found = λ names n o. (to names n o, back names n o);
  counted = λ n. (
    λ s. let x = (p.counted n).0 s in let z = splits-empty x.1.0 x.1.2 in (x.1.1, x.1.3, (let q = x.2 in let u = x.1.4 in omega arith)),
    λ x. (p.counted n).1 (x.0, (0, x.0, no_rows, x.1, omega arith), x.2),
  );
}
  where
    to : (names : ℕ → List (List ℕ)) → AreNamed names root → (o : Option ℕ) → IsTaken names root o → IsMarked r false o ⊎ TakenIn names todo o
    to names n None t = inl refl
    to names n (Some i) t = elim ((p.found names n (Some i)).0 t) [ inl a ↦ inl a | inr a ↦ elim a [ inl b ↦ (let q : Some i ≡ None = b.taken in cc) | inr b ↦ inr b ] ]

    back : (names : ℕ → List (List ℕ)) → AreNamed names root → (o : Option ℕ) → IsMarked r false o ⊎ TakenIn names todo o → IsTaken names root o
    back names n None (inl a) = (p.found names n None).1 (inr (inl (record { shapes = []; fit = refl; taken = refl })))
    back names n (Some i) (inl a) = (p.found names n (Some i)).1 (inl a)
    back names n o (inr b) = (p.found names n o).1 (inr (inr b))

-- rows without columns
no_column : (rows : List (List Pattern)) → list_all (rows_agree []) rows ≡ true → All (λ row. row ≡ []) rows
no_column [] e = λ k d l. absurd (omega arith)
no_column ([] ∷ rows) e = first (no_column rows e)
  where
    first : All (λ row. row ≡ []) rows → All (λ row. row ≡ []) ([] ∷ rows)
    first a zero d l = refl
    first a (suc k) d l = a k d (omega arith)
no_column ((p ∷ ps) ∷ rows) e = cc

no_head : (rows : List (List Pattern)) → list_all (rows_agree []) rows ≡ true → filter_map head_of rows ≡ []
no_head [] e = refl
no_head ([] ∷ rows) e = no_head rows e
no_head ((p ∷ ps) ∷ rows) e = cc

splits-columns : (rows : List (List Pattern)) (n : ℕ) → list_all (rows_agree []) rows ≡ true → Splits ([] ∷ rows) n → n ≡ 0
splits-columns rows n e (no_columns a) = refl
splits-columns rows n e (wild w s) = cc
splits-columns rows n e (parts p w s) = cc
splits-columns rows n e (cell p w s) = cc
splits-columns rows n e (split f s) = let g = no_head rows e in let q : heads ([] ∷ rows) ≡ [] = ap (λ (x : List Head). heads_of x) g in cc
  where
    heads_of : List Head → List Head
    heads_of x = once [] x

marked_more : (r : List Bool) (e : Bool) (i : ℕ) (o : Option ℕ) → i < length r → IsMarked r e o ⊎ (o ≡ Some i) → IsMarked (set r i true) e o
marked_more r e i None l (inl a) = a
marked_more r e i None l (inr q) = cc
marked_more r e i (Some j) l (inl a) = elim (cases_eq j i) [
  | inl q ↦ ap (λ k. get_or (set r i true) k false) q ∙ get_or-set_same r i true false l
  | inr ne ↦ get_or-set_other r i j true false ne ∙ a
]
marked_more r e i (Some j) l (inr q) = let ji : j ≡ i = some_is q in ap (λ k. get_or (set r i true) k false) ji ∙ get_or-set_same r i true false l
  where
    some_is : {a b : ℕ} → Some a ≡ Some b → a ≡ b
    some_is h = cc

marked_less : (r : List Bool) (e : Bool) (i : ℕ) (o : Option ℕ) → IsMarked (set r i true) e o → IsMarked r e o ⊎ (o ≡ Some i)
marked_less r e i None a = inl a
marked_less r e i (Some j) a = elim (cases_eq j i) [ inl q ↦ inr (ap Some q) | inr ne ↦ inl (sym (get_or-set_other r i j true false ne) ∙ a) ]

taken_first : (names : ℕ → List (List ℕ)) (l : Line) (ls : List Line) (o : Option ℕ) → l.columns ≡ [] → IsTaken names (l ∷ ls) o → o ≡ Some l.rule
taken_first names l ls o q t = elim t.taken [ inl a ↦ a.1 | inr a ↦ (let f = ap (λ (x : List Pattern). row_misses x t.shapes) q in let m = a.0 in cc) ]

-- a rule is reached
pub progress-reached : (root : List Line) (l : Line) (ls : List Line) (todo : List (List Line)) (r : List Bool) (e : Bool) (c : ℕ) → l.columns ≡ [] → Progress root ((l ∷ ls) ∷ todo) r e c → Progress root todo (set r l.rule true) e c
progress-reached root l ls todo r e c q p = record {
  good = subst (λ k. EachGood k root todo) (sym (length-set r l.rule true)) p.good.1;
  found = λ names n o. (
    λ t. elim ((p.found names n o).0 t) [
      | inl a ↦ inl (marked_more r e l.rule o low (inl a))
      | inr a ↦ elim a [ inl b ↦ inl (marked_more r e l.rule o low (inr (taken_first names l ls o q b))) | inr b ↦ inr b ]
    ],
    λ t. elim t [
      | inr b ↦ (p.found names n o).1 (inr (inr b))
      | inl a ↦ elim (marked_less r e l.rule o a) [
        | inl b ↦ (p.found names n o).1 (inl b)
        | inr b ↦ (p.found names n o).1 (inr (inl (record { shapes = []; fit = refl; taken = inl (ap (λ (x : List Pattern). row_hits x []) q, b) })))
      ]
    ],
  );
  counted = λ n. (
    λ s. let x = (p.counted n).0 s in let z = splits-columns (plain ls) x.1.0 alone (subst (λ (y : List Pattern). Splits (y ∷ plain ls) x.1.0) q x.1.2) in (x.1.1, x.1.3, (let a = x.2 in let u = x.1.4 in omega arith)),
    λ x. (p.counted n).1 (x.0, (0, x.0, subst (λ (y : List Pattern). Splits (y ∷ plain ls) 0) (sym q) (no_columns (no_column ([] ∷ plain ls) alone)), x.1, omega arith), x.2),
  );
}
  where
    low : l.rule < length r
    low = ltb-true l.rule (length r) (and_parts (ltb l.rule (length r)) _ p.good.0.below).0

    alone : list_all (rows_agree []) (plain ls) ≡ true
    alone =
        let a = and_parts (list_all (rows_agree l.columns) (l.columns ∷ plain ls)) _ p.good.0.agrees in
        let b = subst (λ (y : List Pattern). list_all (rows_agree y) (y ∷ plain ls) ≡ true) q a.0 in
        b

-- what a head keeps
some_is : {A : Type 0} {a b : A} → Some a ≡ Some b → a ≡ b
some_is h = cc

kept_cond : (b : Bool) (xs r : List Pattern) → cond b (Some xs) None ≡ Some r → (b ≡ true) × (xs ≡ r)
kept_cond true xs r e = (refl, some_is e)
kept_cond false xs r e = cc

-- a literal, or another than the heads, keeps the columns behind the first
kept_tail : (h : Head) (r r' : List Pattern) → ((k : Key) (n : ℕ) → h ≡ HeadKey k n → ⊥) → kept_row h r ≡ Some r' → (p : Pattern) × (r ≡ p ∷ r')
kept_tail (HeadLiteral l) [] r' ne e = cc
kept_tail (HeadLiteral l) (Wild ∷ ps) r' ne e = (Wild, ap (λ (x : List Pattern). Wild ∷ x) (some_is e))
kept_tail (HeadLiteral l) (Parts p q ∷ ps) r' ne e = cc
kept_tail (HeadLiteral l) (Cell p ∷ ps) r' ne e = cc
kept_tail (HeadLiteral l) (Literal m ∷ ps) r' ne e = (Literal m, ap (λ (x : List Pattern). Literal m ∷ x) (kept_cond _ ps r' e).1)
kept_tail (HeadLiteral l) (Made k n p ∷ ps) r' ne e = cc
kept_tail Another [] r' ne e = cc
kept_tail Another (Wild ∷ ps) r' ne e = (Wild, ap (λ (x : List Pattern). Wild ∷ x) (some_is e))
kept_tail Another (Parts p q ∷ ps) r' ne e = cc
kept_tail Another (Cell p ∷ ps) r' ne e = cc
kept_tail Another (Literal m ∷ ps) r' ne e = cc
kept_tail Another (Made k n p ∷ ps) r' ne e = cc
kept_tail (HeadKey k n) r r' ne e = absurd (ne k n refl)

-- a row that begins with a wildcard, and one that begins with the constructor, with what is kept of it
abbrev KeptWild : List Pattern → List Pattern → Type 0
KeptWild r r' = (ps : List Pattern) × ((r ≡ Wild ∷ ps) × (r' ≡ Wild ∷ ps))

abbrev KeptMade : Key → List Pattern → List Pattern → Type 0
KeptMade k r r' = (ps : List Pattern) × (m : ℕ) × (p : Pattern) × ((r ≡ Made k m p ∷ ps) × (r' ≡ p ∷ ps))

-- a constructor keeps the argument and the columns behind
kept_made : (k : Key) (n : ℕ) (r r' : List Pattern) → kept_row (HeadKey k n) r ≡ Some r' → KeptWild r r' ⊎ KeptMade k r r'
kept_made k n [] r' e = cc
kept_made k n (Wild ∷ ps) r' e = inl (ps, (refl, sym (some_is e)))
kept_made k n (Parts p q ∷ ps) r' e = cc
kept_made k n (Cell p ∷ ps) r' e = cc
kept_made k n (Literal m ∷ ps) r' e = cc
kept_made k n (Made j m p ∷ ps) r' e =
    let q = kept_cond (is_same_key k j) (p ∷ ps) r' e in
    inr (ps, m, p, (ap (λ (x : Key). Made x m p ∷ ps) (sym (same_key-true k j q.0)), sym q.1))

agree_wild : (p : Pattern) → agree p Wild ≡ true
agree_wild Wild = refl
agree_wild (Parts p q) = refl
agree_wild (Cell p) = refl
agree_wild (Literal l) = refl
agree_wild (Made k n p) = refl

tails_agree : (h : Head) → ((k : Key) (n : ℕ) → h ≡ HeadKey k n → ⊥) → (r s r' s' : List Pattern) → kept_row h r ≡ Some r' → kept_row h s ≡ Some s' → rows_agree r s ≡ true → rows_agree r' s' ≡ true
tails_agree h ne r s r' s' e f a =
    let x = kept_tail h r r' ne e in
    let y = kept_tail h s s' ne f in
    let b : rows_agree (x.0 ∷ r') (y.0 ∷ s') ≡ true = subst (λ (u : List Pattern). rows_agree u (y.0 ∷ s') ≡ true) x.1 (subst (λ (u : List Pattern). rows_agree r u ≡ true) y.1 a) in
    (and_parts (agree x.0 y.0) (rows_agree r' s') b).1

made_agree : (k : Key) (n : ℕ) (r s r' s' : List Pattern) → kept_row (HeadKey k n) r ≡ Some r' → kept_row (HeadKey k n) s ≡ Some s' → rows_agree r s ≡ true → rows_agree r' s' ≡ true
made_agree k n r s r' s' e f a = by (kept_made k n r r' e) (kept_made k n s s' f)
  where
    arguments : (x y z : Bool) → ((x && y) || z) ≡ true → z ≡ false → y ≡ true
    arguments true true z e f = refl
    arguments true false z e f = cc
    arguments false y z e f = cc

    both : (u v u' v' : List Pattern) → r ≡ u → s ≡ v → r' ≡ u' → s' ≡ v' → (rows_agree u v ≡ true → rows_agree u' v' ≡ true) → rows_agree r' s' ≡ true
    both u v u' v' p q p' q' g =
        subst (λ (x : List Pattern). rows_agree x s' ≡ true) (sym p') (subst (λ (y : List Pattern). rows_agree u' y ≡ true) (sym q')
        (g (subst (λ (x : List Pattern). rows_agree x v ≡ true) p (subst (λ (y : List Pattern). rows_agree r y ≡ true) q a))))

    by : KeptWild r r' ⊎ KeptMade k r r' → KeptWild s s' ⊎ KeptMade k s s' → rows_agree r' s' ≡ true
    by (inl x) (inl y) = both (Wild ∷ x.0) (Wild ∷ y.0) (Wild ∷ x.0) (Wild ∷ y.0) x.1.0 y.1.0 x.1.1 y.1.1 (λ g. g)
    by (inl x) (inr y) = both (Wild ∷ x.0) (Made k y.1 y.2 ∷ y.0) (Wild ∷ x.0) (y.2 ∷ y.0) x.1.0 y.3.0 x.1.1 y.3.1 (λ g. g)
    by (inr x) (inl y) = both (Made k x.1 x.2 ∷ x.0) (Wild ∷ y.0) (x.2 ∷ x.0) (Wild ∷ y.0) x.3.0 y.1.0 x.3.1 y.1.1 (λ g. and_from (agree x.2 Wild) _ (agree_wild x.2) g)
    by (inr x) (inr y) = both (Made k x.1 x.2 ∷ x.0) (Made k y.1 y.2 ∷ y.0) (x.2 ∷ x.0) (y.2 ∷ y.0) x.3.0 y.3.0 x.3.1 y.3.1
        (λ g. let z = and_parts ((is_same_key k k && agree x.2 y.2) || is_other_key k k) (rows_agree x.0 y.0) g in
        and_from (agree x.2 y.2) _ (arguments (is_same_key k k) (agree x.2 y.2) (is_other_key k k) z.0 (other_key-irrefl k)) z.1)

kept_agree : (h : Head) (r s r' s' : List Pattern) → kept_row h r ≡ Some r' → kept_row h s ≡ Some s' → rows_agree r s ≡ true → rows_agree r' s' ≡ true
kept_agree (HeadKey k n) r s r' s' e f a = made_agree k n r s r' s' e f a
kept_agree (HeadLiteral l) r s r' s' e f a = tails_agree (HeadLiteral l) (λ k n q. cc) r s r' s' e f a
kept_agree Another r s r' s' e f a = tails_agree Another (λ k n q. cc) r s r' s' e f a

kept_named : (names : ℕ → List (List ℕ)) (h : Head) (r r' : List Pattern) → kept_row h r ≡ Some r' → list_all (are_named names) r ≡ true → list_all (are_named names) r' ≡ true
kept_named names (HeadKey k n) r r' e a = elim (kept_made k n r r' e) [
  | inl x ↦ subst (λ (u : List Pattern). list_all (are_named names) u ≡ true) (sym x.1.1) (subst (λ (u : List Pattern). list_all (are_named names) u ≡ true) x.1.0 a)
  | inr x ↦
      let b : list_all (are_named names) (Made k x.1 x.2 ∷ x.0) ≡ true = subst (λ (u : List Pattern). list_all (are_named names) u ≡ true) x.3.0 a in
      let d = and_parts (is_named names x.1 k && are_named names x.2) (list_all (are_named names) x.0) b in
      let f = and_parts (is_named names x.1 k) (are_named names x.2) d.0 in
      subst (λ (u : List Pattern). list_all (are_named names) u ≡ true) (sym x.3.1) (and_from (are_named names x.2) _ f.1 d.1)
]
kept_named names (HeadLiteral l) r r' e a = let x = kept_tail (HeadLiteral l) r r' (λ k n q. cc) e in (and_parts (are_named names x.0) _ (subst (λ (u : List Pattern). list_all (are_named names) u ≡ true) x.1 a)).1
kept_named names Another r r' e a = let x = kept_tail Another r r' (λ k n q. cc) e in (and_parts (are_named names x.0) _ (subst (λ (u : List Pattern). list_all (are_named names) u ≡ true) x.1 a)).1

line_is : (n : ℕ) (k : Option (List Pattern)) (l' : Line) → line_with n k ≡ Some l' → (k ≡ Some l'.columns) × (n ≡ l'.rule)
line_is n None l' e = cc
line_is n (Some r) l' e = let q = some_is e in (ap (λ (x : Line). Some x.columns) q, ap (λ (x : Line). x.rule) q)

good_kept : (k : ℕ) (root m : List Line) (h : Head) → IsGood k root m → IsGood k root (kept_lines m h)
good_kept k root m h g = record {
  agrees = subst (λ (x : List (List Pattern)). all_agree x ≡ true) (sym (plain-kept h m)) (pairs-filter (kept_row h) rows_agree rows_agree (λ r s r' s' e f a. kept_agree h r s r' s' e f a) (plain m) g.agrees);
  below = all-filter (kept_line h) (λ l. ltb l.rule k) (λ l. ltb l.rule k) (λ l l' e a. subst (λ n. ltb n k ≡ true) (line_is l.rule (kept_row h l.columns) l' e).1 a) m g.below;
  named = λ names n. record {
    each = all-filter (kept_line h) (λ l. list_all (are_named names) l.columns) (λ l. list_all (are_named names) l.columns)
        (λ l l' e a. kept_named names h l.columns l'.columns (line_is l.rule (kept_row h l.columns) l' e).0 a) m (g.named names n).each;
  };
}

good_all : (k : ℕ) (root m : List Line) (todo : List (List Line)) (hs : List Head) → IsGood k root m → EachGood k root todo → EachGood k root (map (kept_lines m) hs ++ todo)
good_all k root m todo [] g e = e
good_all k root m todo (h ∷ hs) g e = (good_kept k root m h g, good_all k root m todo hs g e)

in_heads : (names : ℕ → List (List ℕ)) (m : List Line) (todo : List (List Line)) (hs : List Head) (h : Head) (o : Option ℕ) → OneOf hs h → IsTaken names (kept_lines m h) o → TakenIn names (map (kept_lines m) hs ++ todo) o
in_heads names m todo [] h o one t = absurd one
in_heads names m todo (x ∷ xs) h o (inl q) t = inl (subst (λ (y : Head). IsTaken names (kept_lines m y) o) (sym q) t)
in_heads names m todo (x ∷ xs) h o (inr q) t = inr (in_heads names m todo xs h o q t)

in_rest : (names : ℕ → List (List ℕ)) (m : List Line) (todo : List (List Line)) (hs : List Head) (o : Option ℕ) → TakenIn names todo o → TakenIn names (map (kept_lines m) hs ++ todo) o
in_rest names m todo [] o t = t
in_rest names m todo (x ∷ xs) o t = inr (in_rest names m todo xs o t)

from_heads : (names : ℕ → List (List ℕ)) (m : List Line) (todo : List (List Line)) (hs : List Head) (o : Option ℕ) → TakenIn names (map (kept_lines m) hs ++ todo) o
    → ((h : Head) × OneOf hs h × IsTaken names (kept_lines m h) o) ⊎ TakenIn names todo o
from_heads names m todo [] o t = inr t
from_heads names m todo (x ∷ xs) o (inl t) = inl (x, inl refl, t)
from_heads names m todo (x ∷ xs) o (inr t) = elim (from_heads names m todo xs o t) [ inl a ↦ inl (a.0, inr a.1, a.2) | inr a ↦ inr a ]

-- the splits of what all heads keep, each with one for its head
total_heads : (m : List Line) (todo : List (List Line)) (hs : List Head) (a b : ℕ) → SplitsOfAll (plain m) hs a → Total todo b → (r : ℕ) × Total (map (kept_lines m) hs ++ todo) r × (a + b ≡ length hs + r)
total_heads m todo [] a b done t = (b, t, omega arith)
total_heads m todo (h ∷ hs) a b (more {m = x} {n = y} s z) t =
    let r = total_heads m todo hs y b z t in
    (x + r.0, (x, r.0, subst (λ (u : List (List Pattern)). Splits u x) (sym (plain-kept h m)) s, r.1, refl), (let q = r.2 in omega arith))

total_back : (m : List Line) (todo : List (List Line)) (hs : List Head) (r : ℕ) → Total (map (kept_lines m) hs ++ todo) r → (a : ℕ) × (b : ℕ) × SplitsOfAll (plain m) hs a × Total todo b × (a + b ≡ length hs + r)
total_back m todo [] r t = (0, r, done, t, omega arith)
total_back m todo (h ∷ hs) r t =
    let x = total_back m todo hs t.1 t.3 in
    (suc t.0 + x.0, x.1, more (subst (λ (u : List (List Pattern)). Splits u t.0) (plain-kept h m) t.2) x.2, x.3, (let q = x.4 in let u = t.4 in omega arith))

least_splits : (rows : List (List Pattern)) (hs : List Head) (a : ℕ) → SplitsOfAll rows hs a → length hs ≤ a
least_splits rows [] a s = omega arith
least_splits rows (h ∷ hs) a (more {m = x} {n = y} s z) = let q = least_splits rows hs y z in omega arith

-- the matrix is split
pub progress-split : (root m : List Line) (todo : List (List Line)) (r : List Bool) (e : Bool) (c : ℕ) (s : IsSplit (plain m)) → list_all stands (s.first ∷ s.others) ≡ true → Progress root (m ∷ todo) r e c
    → Progress root (map (kept_lines m) (split_by (s.first ∷ s.others)) ++ todo) r e (c + length (split_by (s.first ∷ s.others)))
progress-split root m todo r e c s stand p = record {
  good = good_all (length r) root m todo (split_by (s.first ∷ s.others)) p.good.0 p.good.1;
  found = λ names n o. (
    λ t. elim ((p.found names n o).0 t) [
      | inl a ↦ inl a
      | inr a ↦ inr (elim a [
        | inl b ↦ (let g = taken_split names m s (p.good.0.named names n) stand o b in in_heads names m todo (split_by (s.first ∷ s.others)) g.0 o g.1 g.2)
        | inr b ↦ in_rest names m todo (split_by (s.first ∷ s.others)) o b
      ])
    ],
    λ t. (p.found names n o).1 (elim t [
      | inl a ↦ inl a
      | inr a ↦ inr (elim (from_heads names m todo (split_by (s.first ∷ s.others)) o a) [
        | inl b ↦ inl (taken_split_back names m s (p.good.0.named names n) stand o b.0 b.1 b.2)
        | inr b ↦ inr b
      ])
    ]),
  );
  counted = λ n. (
    λ x. let y = (p.counted n).0 x in
        let z = total_heads m todo (split_by (s.first ∷ s.others)) y.1.0 y.1.1 (splits-heads (plain m) y.1.0 s.first s.others s.heads y.1.2) y.1.3 in
        (z.0, z.1, (let u = y.2 in let v = y.1.4 in let w = z.2 in omega arith)),
    λ y. let z = total_back m todo (split_by (s.first ∷ s.others)) y.0 y.1 in
        (p.counted n).1 (z.0 + z.1, (z.0, z.1, split s.heads z.2, z.3, refl), (let u = y.2 in let w = z.4 in omega arith)),
  );
}

-- the matrix would be split too often
pub progress-over : (limit : ℕ) (root m : List Line) (todo : List (List Line)) (r : List Bool) (e : Bool) (c : ℕ) (s : IsSplit (plain m)) → limit < c + length (split_by (s.first ∷ s.others)) → Progress root (m ∷ todo) r e c
    → (n : ℕ) → Splits (plain root) n → limit < n
progress-over limit root m todo r e c s l p n x =
    let y = (p.counted n).0 x in
    let z = least_splits (plain m) (split_by (s.first ∷ s.others)) y.1.0 (splits-heads (plain m) y.1.0 s.first s.others s.heads y.1.2) in
    let u = y.2 in
    let v = y.1.4 in
    omega arith

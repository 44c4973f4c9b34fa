-- The heads of a column of one type.
use Rattle.std.proofs.Common.{◌≡◌, ℕ, List, [], ◌∷◌, ◌++◌, length, Bool, true, false, ◌&&◌, ◌||◌, not, cond, Option, Some, None, refl, sym, ap, subst, inl, inr, ◌⊎◌}
use Rattle.std.specs.List.{list_all, list_any, filter_map, cons_option}
use Rattle.std.proofs.lemmas.Bool.{and_parts, and_from, or_left, or_right, or_cases, cases_Bool}
use Rattle.sml_static.specs.Shapes.{Pattern, Wild, Parts, Cell, Literal, Made, is_same_key, is_other_key, is_same_literal, is_other_literal}
use Rattle.sml_static.specs.Exhaustive.{Head, HeadLiteral, HeadKey, Another, is_same_head, head_of, heads, once, split_by, has_others, is_named, are_named}
use Rattle.match_use.specs.Alike.{agree}
use Rattle.match_use.specs.Lines.{rows_agree, all_agree}
use Rattle.match_use.specs.Steps.{first_step}
use Rattle.match_use.specs.declared.reduce.Step.TheVariants as step
use Rattle.match_use.proofs.Tests.{all-imp, all-filter}
use Rattle.match_use.proofs.Weights.{IsAmong, among_here, among_later}
use Rattle.match_use.proofs.Pigeons.{are_unlike, same_head-sym}
use Rattle.match_use.proofs.Equal.{same_key-refl, same_literal-refl}

-- whether two heads are of one type
abbrev pub is_typed : Head → Head → Bool
is_typed (HeadLiteral l) (HeadLiteral m) = is_same_literal l m || is_other_literal l m
is_typed (HeadKey k n) (HeadKey j m) = is_same_key k j || is_other_key k j
is_typed _ _ = false

-- whether a constructor among the heads has its datatype's names
abbrev pub keyed : (ℕ → List (List ℕ)) → Head → Bool
keyed names (HeadLiteral l) = true
keyed names (HeadKey k n) = is_named names n k
keyed names Another = true

-- whether a row begins with a wildcard, or with one of the heads and of the first one's type
abbrev pub in_column : Head → List Head → List Pattern → Bool
in_column h hs (Wild ∷ ps) = true
in_column h hs (Literal l ∷ ps) = is_typed h (HeadLiteral l) && list_any (is_same_head (HeadLiteral l)) hs
in_column h hs (Made k n p ∷ ps) = is_typed h (HeadKey k n) && list_any (is_same_head (HeadKey k n)) hs
in_column h hs _ = false

-- a head that stands among these
abbrev pub OneOf : List Head → Head → Type 0
OneOf [] h = ⊥
OneOf (x ∷ xs) h = (x ≡ h) ⊎ OneOf xs h

pub one_of-passes : (t : Head → Bool) (hs : List Head) (h : Head) → list_all t hs ≡ true → OneOf hs h → t h ≡ true
one_of-passes t [] h e o = absurd o
one_of-passes t (x ∷ xs) h e (inl o) = subst (λ (y : Head). t y ≡ true) o (and_parts (t x) (list_all t xs) e).0
one_of-passes t (x ∷ xs) h e (inr o) = one_of-passes t xs h (and_parts (t x) (list_all t xs) e).1 o

pub any-one_of : (t : Head → Bool) (hs : List Head) → list_any t hs ≡ true → (h : Head) × OneOf hs h × (t h ≡ true)
any-one_of t [] e = cc
any-one_of t (x ∷ xs) e = elim (or_cases (t x) (list_any t xs) e) [
  | inl a ↦ (x, inl refl, a)
  | inr a ↦ let r = any-one_of t xs a in (r.0, inr r.1, r.2)
]

one_of-append : (hs gs : List Head) (h : Head) → OneOf hs h → OneOf (hs ++ gs) h
one_of-append [] gs h o = absurd o
one_of-append (x ∷ xs) gs h (inl o) = inl o
one_of-append (x ∷ xs) gs h (inr o) = inr (one_of-append xs gs h o)

one_of-end : (hs : List Head) (h : Head) → OneOf (hs ++ h ∷ []) h
one_of-end [] h = inl refl
one_of-end (x ∷ xs) h = inr (one_of-end xs h)

one_of-last : (hs : List Head) (g h : Head) → OneOf (hs ++ g ∷ []) h → OneOf hs h ⊎ (g ≡ h)
one_of-last [] g h (inl o) = inr o
one_of-last [] g h (inr o) = absurd o
one_of-last (x ∷ xs) g h (inl o) = inl (inl o)
one_of-last (x ∷ xs) g h (inr o) = elim (one_of-last xs g h o) [ inl a ↦ inl (inr a) | inr a ↦ inr a ]

-- the heads that a column is split by
pub splits_by : (h : Head) (hs : List Head) (g : Head) → OneOf (h ∷ hs) g → OneOf (split_by (h ∷ hs)) g
splits_by h hs g o = by (has_others h (length (h ∷ hs)))
  where
    by : (b : Bool) → OneOf (cond b ((h ∷ hs) ++ Another ∷ []) (h ∷ hs)) g
    by true = one_of-append (h ∷ hs) (Another ∷ []) g o
    by false = o

pub splits_by-another : (h : Head) (hs : List Head) → has_others h (length (h ∷ hs)) ≡ true → OneOf (split_by (h ∷ hs)) Another
splits_by-another h hs e = subst (λ (b : Bool). OneOf (cond b ((h ∷ hs) ++ Another ∷ []) (h ∷ hs)) Another) (sym e) (one_of-end (h ∷ hs) Another)

pub split_by-cases : (h : Head) (hs : List Head) (g : Head) → OneOf (split_by (h ∷ hs)) g → OneOf (h ∷ hs) g ⊎ (g ≡ Another) × (has_others h (length (h ∷ hs)) ≡ true)
split_by-cases h hs g o = by (has_others h (length (h ∷ hs))) refl o
  where
    by : (b : Bool) → has_others h (length (h ∷ hs)) ≡ b → OneOf (cond b ((h ∷ hs) ++ Another ∷ []) (h ∷ hs)) g → OneOf (h ∷ hs) g ⊎ (g ≡ Another) × (has_others h (length (h ∷ hs)) ≡ true)
    by true e o = elim (one_of-last (h ∷ hs) Another g o) [ inl a ↦ inl a | inr a ↦ inr (sym a, e) ]
    by false e o = inl o

-- heads once each: what passes, what is among them, and that they are unlike
pub once-all : (t : Head → Bool) (seen hs : List Head) → list_all t hs ≡ true → list_all t (once seen hs) ≡ true
once-all t seen [] e = refl
once-all t seen (h ∷ hs) e = let a = and_parts (t h) (list_all t hs) e in by (list_any (is_same_head h) seen) a.0 (once-all t seen hs a.1) (once-all t (h ∷ seen) hs a.1)
  where
    by : (b : Bool) → t h ≡ true → list_all t (once seen hs) ≡ true → list_all t (once (h ∷ seen) hs) ≡ true → list_all t (cond b (once seen hs) (h ∷ once (h ∷ seen) hs)) ≡ true
    by true x y z = y
    by false x y z = and_from (t h) _ x z

-- whether a head is alike to none of these
abbrev unseen : List Head → Head → Bool
unseen seen h = not (list_any (is_same_head h) seen)

once-unseen : (seen hs : List Head) → list_all (unseen seen) (once seen hs) ≡ true
once-unseen seen [] = refl
once-unseen seen (h ∷ hs) = by (list_any (is_same_head h) seen) refl (once-unseen seen hs) (all-imp (unseen (h ∷ seen)) (unseen seen) (fewer h seen) (once (h ∷ seen) hs) (once-unseen (h ∷ seen) hs))
  where
    fewer : (h : Head) (seen : List Head) (x : Head) → unseen (h ∷ seen) x ≡ true → unseen seen x ≡ true
    fewer h seen x e = by_or (is_same_head x h) (list_any (is_same_head x) seen) e
      where
        by_or : (a b : Bool) → not (a || b) ≡ true → not b ≡ true
        by_or true b e = cc
        by_or false b e = e

    by : (b : Bool) → list_any (is_same_head h) seen ≡ b → list_all (unseen seen) (once seen hs) ≡ true → list_all (unseen seen) (once (h ∷ seen) hs) ≡ true
        → list_all (unseen seen) (cond b (once seen hs) (h ∷ once (h ∷ seen) hs)) ≡ true
    by true f x y = x
    by false f x y = and_from (unseen seen h) _ (ap not f) y

later_unlike : (h : Head) (seen : List Head) (x : Head) → unseen (h ∷ seen) x ≡ true → not (is_same_head h x) ≡ true
later_unlike h seen x e = elim (cases_Bool (is_same_head h x)) [
  | inl a ↦ let s = same_head-sym h x a in let f : unseen (h ∷ seen) x ≡ false = ap not (or_left (is_same_head x h) (list_any (is_same_head x) seen) s) in cc
  | inr a ↦ ap not a
]

pub once-unlike : (seen hs : List Head) → are_unlike (once seen hs) ≡ true
once-unlike seen [] = refl
once-unlike seen (h ∷ hs) = by (list_any (is_same_head h) seen) (once-unlike seen hs) (all-imp (unseen (h ∷ seen)) (λ x. not (is_same_head h x)) (later_unlike h seen) (once (h ∷ seen) hs) (once-unseen (h ∷ seen) hs)) (once-unlike (h ∷ seen) hs)
  where
    by : (b : Bool) → are_unlike (once seen hs) ≡ true → list_all (λ x. not (is_same_head h x)) (once (h ∷ seen) hs) ≡ true → are_unlike (once (h ∷ seen) hs) ≡ true
        → are_unlike (cond b (once seen hs) (h ∷ once (h ∷ seen) hs)) ≡ true
    by true x y z = x
    by false x y z = and_from (list_all (λ x. not (is_same_head h x)) (once (h ∷ seen) hs)) _ y z

-- each of the heads is alike to one that was seen, or to one of those that are left
once-has : (seen hs : List Head) (x : Head) → OneOf hs x → is_same_head x x ≡ true → (list_any (is_same_head x) seen || list_any (is_same_head x) (once seen hs)) ≡ true
once-has seen [] x o e = absurd o
once-has seen (h ∷ hs) x o e = by (list_any (is_same_head h) seen) refl o (once-has seen hs x) (once-has (h ∷ seen) hs x)
  where
    shuffled : (a b c : Bool) → ((a || b) || c) ≡ true → (b || (a || c)) ≡ true
    shuffled true true c e = refl
    shuffled true false c e = refl
    shuffled false true c e = refl
    shuffled false false c e = e

    by : (b : Bool) → list_any (is_same_head h) seen ≡ b → (h ≡ x) ⊎ OneOf hs x
        → (OneOf hs x → is_same_head x x ≡ true → (list_any (is_same_head x) seen || list_any (is_same_head x) (once seen hs)) ≡ true)
        → (OneOf hs x → is_same_head x x ≡ true → (list_any (is_same_head x) (h ∷ seen) || list_any (is_same_head x) (once (h ∷ seen) hs)) ≡ true)
        → (list_any (is_same_head x) seen || list_any (is_same_head x) (cond b (once seen hs) (h ∷ once (h ∷ seen) hs))) ≡ true
    by true f (inl q) k l = or_left (list_any (is_same_head x) seen) _ (subst (λ (y : Head). list_any (is_same_head y) seen ≡ true) q f)
    by true f (inr q) k l = k q e
    by false f (inl q) k l = or_right (list_any (is_same_head x) seen) _ (or_left (is_same_head x h) _ (subst (λ (y : Head). is_same_head x y ≡ true) (sym q) e))
    by false f (inr q) k l = shuffled (is_same_head x h) (list_any (is_same_head x) seen) (list_any (is_same_head x) (once (h ∷ seen) hs)) (l q e)

pub heads-own : (rows : List (List Pattern)) → list_all (λ h. is_same_head h h) (filter_map head_of rows) ≡ true
heads-own [] = refl
heads-own ([] ∷ rows) = heads-own rows
heads-own ((Wild ∷ ps) ∷ rows) = heads-own rows
heads-own ((Parts p q ∷ ps) ∷ rows) = heads-own rows
heads-own ((Cell p ∷ ps) ∷ rows) = heads-own rows
heads-own ((Literal l ∷ ps) ∷ rows) = and_from (is_same_literal l l) _ (same_literal-refl l) (heads-own rows)
heads-own ((Made k n p ∷ ps) ∷ rows) = and_from (is_same_key k k) _ (same_key-refl k) (heads-own rows)

heads-have : (rows : List (List Pattern)) (x : Head) → OneOf (filter_map head_of rows) x → list_any (is_same_head x) (heads rows) ≡ true
heads-have rows x o = once-has [] (filter_map head_of rows) x o (one_of-passes (λ h. is_same_head h h) (filter_map head_of rows) x (heads-own rows) o)

-- what the head of a row passes, where it has one
abbrev on_head : (Head → Bool) → Option Head → Bool
on_head t None = true
on_head t (Some h) = t h

rows-pass : (t : Head → Bool) (rows : List (List Pattern)) → ((x : Head) → OneOf (filter_map head_of rows) x → t x ≡ true) → list_all (λ r. on_head t (head_of r)) rows ≡ true
rows-pass t [] f = refl
rows-pass t (r ∷ rows) f = by (head_of r) f (rows-pass t rows)
  where
    by : (o : Option Head) → ((x : Head) → OneOf (cons_option o (filter_map head_of rows)) x → t x ≡ true)
        → (((x : Head) → OneOf (filter_map head_of rows) x → t x ≡ true) → list_all (λ r. on_head t (head_of r)) rows ≡ true)
        → (on_head t o && list_all (λ r. on_head t (head_of r)) rows) ≡ true
    by None f k = k f
    by (Some h) f k = and_from (t h) _ (f h (inl refl)) (k (λ x o. f x (inr o)))

-- whether a row has a column
abbrev pub has_column : List Pattern → Bool
has_column [] = false
has_column (p ∷ ps) = true

-- the first head of a column that is to be split, with its row
record FirstHead (rows : List (List Pattern)) : Type 0 where
  row : List Pattern
  head : Head
  others : List Head
  among : IsAmong rows row
  own : head_of row ≡ Some head
  first : filter_map head_of rows ≡ head ∷ others

first_head : (rows : List (List Pattern)) → list_all has_column rows ≡ true → first_step rows ≡ step.Ready → FirstHead rows
first_head [] n e = cc
first_head ([] ∷ rows) n e = cc
first_head ((Wild ∷ ps) ∷ rows) n e =
    let f = first_head rows n e in
    record { row = f.row; head = f.head; others = f.others; among = among_later (Wild ∷ ps) f.row rows f.among; own = f.own; first = f.first }
first_head ((Parts p q ∷ ps) ∷ rows) n e = cc
first_head ((Cell p ∷ ps) ∷ rows) n e = cc
first_head ((Literal l ∷ ps) ∷ rows) n e =
    record { row = Literal l ∷ ps; head = HeadLiteral l; others = filter_map head_of rows; among = among_here (Literal l ∷ ps) rows; own = refl; first = refl }
first_head ((Made k n p ∷ ps) ∷ rows) m e =
    record { row = Made k n p ∷ ps; head = HeadKey k n; others = filter_map head_of rows; among = among_here (Made k n p ∷ ps) rows; own = refl; first = refl }

wide : (p : Pattern) (ps r : List Pattern) → rows_agree (p ∷ ps) r ≡ true → has_column r ≡ true
wide p ps [] e = cc
wide p ps (q ∷ qs) e = refl

-- a row that agrees with one that begins with a head, and whose head is among the heads, is in the column
joined : (row : List Pattern) (h : Head) (hs : List Head) (r : List Pattern) → head_of row ≡ Some h → rows_agree row r ≡ true → on_head (λ x. list_any (is_same_head x) hs) (head_of r) ≡ true → in_column h hs r ≡ true
joined [] h hs r o a e = cc
joined (Wild ∷ ps) h hs r o a e = cc
joined (Parts p q ∷ ps) h hs r o a e = cc
joined (Cell p ∷ ps) h hs r o a e = cc
joined (Literal l ∷ ps) h hs [] o a e = cc
joined (Literal l ∷ ps) h hs (Wild ∷ qs) o a e = refl
joined (Literal l ∷ ps) h hs (Parts u v ∷ qs) o a e = cc
joined (Literal l ∷ ps) h hs (Cell u ∷ qs) o a e = cc
joined (Literal l ∷ ps) h hs (Made k n u ∷ qs) o a e = cc
joined (Literal l ∷ ps) h hs (Literal m ∷ qs) o a e =
    let g : HeadLiteral l ≡ h = cc in
    subst (λ (x : Head). in_column x hs (Literal m ∷ qs) ≡ true) g (and_from (is_same_literal l m || is_other_literal l m) _ (and_parts (is_same_literal l m || is_other_literal l m) _ a).0 e)
joined (Made k n p ∷ ps) h hs [] o a e = cc
joined (Made k n p ∷ ps) h hs (Wild ∷ qs) o a e = refl
joined (Made k n p ∷ ps) h hs (Parts u v ∷ qs) o a e = cc
joined (Made k n p ∷ ps) h hs (Cell u ∷ qs) o a e = cc
joined (Made k n p ∷ ps) h hs (Literal l ∷ qs) o a e = cc
joined (Made k n p ∷ ps) h hs (Made j m u ∷ qs) o a e =
    let g : HeadKey k n ≡ h = cc in
    subst (λ (x : Head). in_column x hs (Made j m u ∷ qs) ≡ true) g (and_from (is_same_key k j || is_other_key k j) _ (weaker (is_same_key k j) (agree p u) (is_other_key k j) (and_parts ((is_same_key k j && agree p u) || is_other_key k j) _ a).0) e)
  where
    weaker : (x y z : Bool) → ((x && y) || z) ≡ true → (x || z) ≡ true
    weaker true y z e = refl
    weaker false y z e = e

-- a column that is split: its heads, the first of which tells its type
pub record IsSplit (rows : List (List Pattern)) : Type 0 where
  pub first : Head
  pub others : List Head
  pub heads : heads rows ≡ first ∷ others
  pub column : list_all (in_column first (first ∷ others)) rows ≡ true
  pub unlike : are_unlike (first ∷ others) ≡ true

pub is_split : (rows : List (List Pattern)) (p : Pattern) (ps : List Pattern) → IsAmong rows (p ∷ ps) → all_agree rows ≡ true → first_step rows ≡ step.Ready → IsSplit rows
is_split rows p ps here a e =
    let wide_rows = all-imp (rows_agree (p ∷ ps)) has_column (wide p ps) rows (here.passes (λ r. list_all (rows_agree r) rows) a) in
    let f = first_head rows wide_rows e in
    let hs = once (f.head ∷ []) f.others in
    let is : heads rows ≡ f.head ∷ hs = ap (once []) f.first in
    let alike = f.among.passes (λ r. list_all (rows_agree r) rows) a in
    let present = rows-pass (λ x. list_any (is_same_head x) (f.head ∷ hs)) rows (λ x o. subst (λ (y : List Head). list_any (is_same_head x) y ≡ true) is (heads-have rows x o)) in
    record {
      first = f.head;
      others = hs;
      heads = is;
      column = all-both (rows_agree f.row) (λ r. on_head (λ x. list_any (is_same_head x) (f.head ∷ hs)) (head_of r)) (in_column f.head (f.head ∷ hs)) (λ r u v. joined f.row f.head (f.head ∷ hs) r f.own u v) rows alike present;
      unlike = subst (λ (y : List Head). are_unlike y ≡ true) is (once-unlike [] (filter_map head_of rows));
    }
  where
    all-both : (p q t : List Pattern → Bool) → ((r : List Pattern) → p r ≡ true → q r ≡ true → t r ≡ true) → (xs : List (List Pattern)) → list_all p xs ≡ true → list_all q xs ≡ true → list_all t xs ≡ true
    all-both p q t h [] d e = refl
    all-both p q t h (x ∷ xs) d e =
        let a = and_parts (p x) (list_all p xs) d in
        let b = and_parts (q x) (list_all q xs) e in
        and_from (t x) _ (h x a.0 b.0) (all-both p q t h xs a.1 b.1)

-- the heads are all of the first one's type
typed_head : (h : Head) (hs : List Head) (r : List Pattern) (g : Head) → head_of r ≡ Some g → in_column h hs r ≡ true → is_typed h g ≡ true
typed_head h hs [] g e c = cc
typed_head h hs (Wild ∷ ps) g e c = cc
typed_head h hs (Parts p q ∷ ps) g e c = cc
typed_head h hs (Cell p ∷ ps) g e c = cc
typed_head h hs (Literal l ∷ ps) g e c = let q : HeadLiteral l ≡ g = cc in subst (λ (x : Head). is_typed h x ≡ true) q (and_parts (is_typed h (HeadLiteral l)) _ c).0
typed_head h hs (Made k n p ∷ ps) g e c = let q : HeadKey k n ≡ g = cc in subst (λ (x : Head). is_typed h x ≡ true) q (and_parts (is_typed h (HeadKey k n)) _ c).0

pub typed_heads : (rows : List (List Pattern)) (s : IsSplit rows) → list_all (is_typed s.first) (s.first ∷ s.others) ≡ true
typed_heads rows s = subst (λ (y : List Head). list_all (is_typed s.first) y ≡ true) s.heads
    (once-all (is_typed s.first) [] (filter_map head_of rows) (all-filter head_of (in_column s.first (s.first ∷ s.others)) (is_typed s.first) (λ r g e c. typed_head s.first (s.first ∷ s.others) r g e c) rows s.column))

-- the heads have their datatypes' names
keyed_head : (names : ℕ → List (List ℕ)) (r : List Pattern) (g : Head) → head_of r ≡ Some g → list_all (are_named names) r ≡ true → keyed names g ≡ true
keyed_head names [] g e c = cc
keyed_head names (Wild ∷ ps) g e c = cc
keyed_head names (Parts p q ∷ ps) g e c = cc
keyed_head names (Cell p ∷ ps) g e c = cc
keyed_head names (Literal l ∷ ps) g e c = let q : HeadLiteral l ≡ g = cc in subst (λ (x : Head). keyed names x ≡ true) q refl
keyed_head names (Made k n p ∷ ps) g e c =
    let q : HeadKey k n ≡ g = cc in
    subst (λ (x : Head). keyed names x ≡ true) q (and_parts (is_named names n k) (are_named names p) (and_parts (is_named names n k && are_named names p) _ c).0).0

pub keyed_heads : (names : ℕ → List (List ℕ)) (rows : List (List Pattern)) (s : IsSplit rows) → list_all (list_all (are_named names)) rows ≡ true → list_all (keyed names) (s.first ∷ s.others) ≡ true
keyed_heads names rows s e = subst (λ (y : List Head). list_all (keyed names) y ≡ true) s.heads
    (once-all (keyed names) [] (filter_map head_of rows) (all-filter head_of (list_all (are_named names)) (keyed names) (λ r g e c. keyed_head names r g e c) rows e))

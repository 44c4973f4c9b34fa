-- From the walk over the matrix of all patterns to the answer.
use Rattle.std.proofs.Common.{◌≡◌, ℕ, zero, suc, ◌+◌, ◌<◌, ◌≤◌, List, [], ◌∷◌, length, replicate, take, Bool, true, false, ◌&&◌, ◌||◌, Option, Some, None, refl, sym, ap, ◌∙◌, subst, arith, inl, inr, ◌⊎◌, ltb, lt-ltb}
use Rattle.std.specs.Prelude.{IsTrue}
use Rattle.std.specs.List.{list_all, slice_index_or}
use Rattle.std.proofs.lemmas.Bool.{and_parts, and_from, or_left, cases_Bool}
use Rattle.sml_static.specs.Shapes.{Pattern, Wild, Shape, hits, misses}
use Rattle.sml_static.specs.Exhaustive.{Splits, IsExhaustive, IsReached, are_named, is_shape}
use Rattle.match_use.specs.Alike.{agree, AreOfOneType}
use Rattle.match_use.specs.Lines.{Line, plain, rows_agree, all_agree, first_shape, TakenBy, AreNamed}
use Rattle.match_use.specs.Reduced.{are_below}
use Rattle.match_use.specs.Progress.{IsMarked, Progress, TakenIn}
use Rattle.match_use.specs.Answer.{patterns_of, matrix_of, lines_from, SplitsWithin, IsWhole, IsGivenUp}
use Rattle.mid_ast.specs.declared.exp.MidRule.{MidRule}
use Rattle.std.specs.Prelude.{MatchOption}
use Rattle.match_use.specs.declared.walk.Tally.{Tally}
use Rattle.match_use.specs.declared.walk.TheConstants.{SPLITS}
use Rattle.match_use.proofs.Tests.{pairs-map}
use Rattle.match_use.proofs.Reducing.{first_fit}

pub plain-lines_from : (k : ℕ) (ps : List Pattern) → plain (lines_from k ps) ≡ matrix_of ps
plain-lines_from k [] = refl
plain-lines_from k (p ∷ ps) = ap (λ t. (p ∷ []) ∷ t) (plain-lines_from (k + 1) ps)

below_from : (n k : ℕ) (ps : List Pattern) → k + length ps ≤ n → are_below n (lines_from k ps)
below_from n k [] l = refl
below_from n k (p ∷ ps) l = and_from (ltb k n) _ (lt-ltb k n (omega arith)) (below_from n (k + 1) ps (omega arith))

pub first_below : (ps : List Pattern) → are_below (length ps) (lines_from 0 ps)
first_below ps = below_from (length ps) 0 ps (omega arith)

all_true : (ps : List Pattern) → list_all (λ p. true) ps ≡ true
all_true [] = refl
all_true (p ∷ ps) = all_true ps

pub first_agree : (ps : List Pattern) → AreOfOneType ps → all_agree (plain (lines_from 0 ps)) ≡ true
first_agree ps t =
    subst (λ (x : List (List Pattern)). all_agree x ≡ true) (sym (plain-lines_from 0 ps))
    (pairs-map (λ p. p ∷ []) (λ p. true) agree rows_agree (λ p q x y a. and_from (agree p q) true a refl) ps (all_true ps) t.agreeing)

named_from : (names : ℕ → List (List ℕ)) (k : ℕ) (ps : List Pattern) → list_all (are_named names) ps ≡ true → list_all (λ l. list_all (are_named names) l.columns) (lines_from k ps) ≡ true
named_from names k [] e = refl
named_from names k (p ∷ ps) e =
    let a = and_parts (are_named names p) (list_all (are_named names) ps) e in
    and_from (are_named names p && true) _ (and_from (are_named names p) true a.0 refl) (named_from names (k + 1) ps a.1)

first_named : (names : ℕ → List (List ℕ)) (ps : List Pattern) → list_all (are_named names) ps ≡ true → AreNamed names (lines_from 0 ps)
first_named names ps e = record { each = named_from names 0 ps e }

-- the place of the rule by which shapes are taken
record TakenAt (ps : List Pattern) (k j : ℕ) (s : Shape) : Type 0 where
  place : ℕ
  is : j ≡ k + place
  within : place < length ps
  hit : hits (slice_index_or ps place Wild) s ≡ true
  missed : list_all (λ p. misses p s) (take place ps) ≡ true

or_none : (b : Bool) → (b || false) ≡ true → b ≡ true
or_none true e = refl
or_none false e = e

some_is : {a b : ℕ} → Some a ≡ Some b → a ≡ b
some_is h = cc

taken_at : (k j : ℕ) (ps : List Pattern) (ss : List Shape) → TakenBy (lines_from k ps) (Some j) ss → TakenAt ps k j (first_shape ss)
taken_at k j [] ss t = cc
taken_at k j (p ∷ ps) ss (inl t) = record {
  place = 0;
  is = (let q = some_is t.1 in omega arith);
  within = omega arith;
  hit = (and_parts (hits p (first_shape ss)) true t.0).0;
  missed = refl;
}
taken_at k j (p ∷ ps) ss (inr t) =
    let r = taken_at (k + 1) j ps ss t.1 in
    record {
      place = suc r.place;
      is = (let q = r.is in omega arith);
      within = (let q = r.within in omega arith);
      hit = r.hit;
      missed = and_from (misses p (first_shape ss)) _ (or_none (misses p (first_shape ss)) t.0) r.missed;
    }

taken_from : (k i : ℕ) (ps : List Pattern) (ss : List Shape) → i < length ps → hits (slice_index_or ps i Wild) (first_shape ss) ≡ true → list_all (λ p. misses p (first_shape ss)) (take i ps) ≡ true
    → (j : ℕ) → j ≡ k + i → TakenBy (lines_from k ps) (Some j) ss
taken_from k i [] ss l h m j e = absurd (omega arith)
taken_from k zero (p ∷ ps) ss l h m j e = inl (and_from (hits p (first_shape ss)) true h refl, ap Some (omega arith))
taken_from k (suc i) (p ∷ ps) ss l h m j e =
    let a = and_parts (misses p (first_shape ss)) _ m in
    inr (or_left (misses p (first_shape ss)) false a.0, taken_from (k + 1) i ps ss (omega arith) h a.1 j (omega arith))

missed_by : (k : ℕ) (ps : List Pattern) (ss : List Shape) → TakenBy (lines_from k ps) None ss → list_all (λ p. misses p (first_shape ss)) ps ≡ true
missed_by k [] ss t = refl
missed_by k (p ∷ ps) ss (inl t) = let q = t.1 in cc
missed_by k (p ∷ ps) ss (inr t) = and_from (misses p (first_shape ss)) _ (or_none (misses p (first_shape ss)) t.0) (missed_by (k + 1) ps ss t.1)

missed_from : (k : ℕ) (ps : List Pattern) (ss : List Shape) → list_all (λ p. misses p (first_shape ss)) ps ≡ true → TakenBy (lines_from k ps) None ss
missed_from k [] ss e = refl
missed_from k (p ∷ ps) ss e =
    let a = and_parts (misses p (first_shape ss)) (list_all (λ q. misses q (first_shape ss)) ps) e in
    inr (or_left (misses p (first_shape ss)) false a.0, missed_from (k + 1) ps ss a.1)

-- where nothing is left to look at, what is marked is what is taken
nothing_left : (names : ℕ → List (List ℕ)) (r : List Bool) (e : Bool) (o : Option ℕ) → IsMarked r e o ⊎ TakenIn names [] o → IsMarked r e o
nothing_left names r e o (inl a) = a
nothing_left names r e o (inr a) = absurd a

reached_by : (ps : List Pattern) (r : List Bool) (e : Bool) (c i : ℕ) → AreOfOneType ps → Progress (lines_from 0 ps) [] r e c → IsTrue (slice_index_or r i false) → IsReached ps i
reached_by ps r e c i t p m =
    let k = (p.found t.names (first_named t.names ps t.named) (Some i)).1 (inl m) in
    let a = taken_at 0 i ps k.shapes k.taken in
    let ai : a.place ≡ i = (let q = a.is in omega arith) in
    record {
      names = t.names;
      shape = first_shape k.shapes;
      fits = record { named = t.named; shape = first_fit t.names k.shapes k.fit };
      within = subst (λ n. n < length ps) ai a.within;
      hit = subst (λ n. hits (slice_index_or ps n Wild) (first_shape k.shapes) ≡ true) ai a.hit;
      missed = subst (λ n. list_all (λ q. misses q (first_shape k.shapes)) (take n ps) ≡ true) ai a.missed;
    }

marked_by : (ps : List Pattern) (r : List Bool) (e : Bool) (c i : ℕ) → Progress (lines_from 0 ps) [] r e c → IsReached ps i → IsTrue (slice_index_or r i false)
marked_by ps r e c i p a =
    nothing_left a.names r e (Some i) ((p.found a.names (first_named a.names ps a.fits.named) (Some i)).0
    (record { shapes = a.shape ∷ []; fit = and_from (is_shape a.names a.shape) true a.fits.shape refl; taken = taken_from 0 i ps (a.shape ∷ []) a.within a.hit a.missed i (omega arith) }))

exhaustive_by : (ps : List Pattern) (r : List Bool) (e : Bool) (c : ℕ) → Progress (lines_from 0 ps) [] r e c → IsTrue e → IsExhaustive ps
exhaustive_by ps r e c p x names s fits missed =
    let m = nothing_left names r e None ((p.found names (first_named names ps fits.named) None).0
    (record { shapes = s ∷ []; fit = and_from (is_shape names s) true fits.shape refl; taken = missed_from 0 ps (s ∷ []) missed })) in
    contrary x m
  where
    contrary : {b : Bool} → b ≡ true → b ≡ false → ⊥
    contrary y z = cc

found_exhaustive : (ps : List Pattern) (r : List Bool) (e : Bool) (c : ℕ) → AreOfOneType ps → Progress (lines_from 0 ps) [] r e c → IsExhaustive ps → IsTrue e
found_exhaustive ps r e c t p x = elim (cases_Bool e) [
  | inl a ↦ a
  | inr a ↦
      let k = (p.found t.names (first_named t.names ps t.named) None).1 (inl a) in
      absurd (x t.names (first_shape k.shapes) (record { named = t.named; shape = first_fit t.names k.shapes k.fit }) (missed_by 0 ps k.shapes k.taken))
]

pub whole_answer : (ps : List Pattern) (r : List Bool) (e : Bool) (c : ℕ) → AreOfOneType ps → Progress (lines_from 0 ps) [] r e c → length r ≡ length ps → IsWhole ps e r
whole_answer ps r e c t p l = record {
  takes_all = (λ x. exhaustive_by ps r e c p x, λ x. found_exhaustive ps r e c t p x);
  rules = l;
  each = λ i h. (λ m. reached_by ps r e c i t p m, λ a. marked_by ps r e c i p a);
}

-- the count where nothing is left, and where it passes the limit
pub count_within : (limit : ℕ) (ps : List Pattern) (r : List Bool) (e : Bool) (c : ℕ) → Progress (lines_from 0 ps) [] r e c → c ≤ limit → SplitsWithin limit ps
count_within limit ps r e c p l =
    (c, subst (λ (x : List (List Pattern)). Splits x c) (plain-lines_from 0 ps) ((p.counted c).1 (0, refl, omega arith)), l)

pub count_over : (limit : ℕ) (ps : List Pattern) → ((n : ℕ) → Splits (plain (lines_from 0 ps)) n → limit < n) → SplitsWithin limit ps → ⊥
count_over limit ps f x = let q = f x.0 (subst (λ (y : List (List Pattern)). Splits y x.0) (sym (plain-lines_from 0 ps)) x.1) in let u = x.2 in omega arith

-- the matrix of all rules, however it is made
pub start_agree : (ps : List Pattern) (lines : List Line) → lines ≡ lines_from 0 ps → AreOfOneType ps → all_agree (plain lines) ≡ true
start_agree ps lines e t = subst (λ (x : List Line). all_agree (plain x) ≡ true) (sym e) (first_agree ps t)

pub length-patterns : (rules : List MidRule) → length (patterns_of rules) ≡ length rules
length-patterns [] = refl
length-patterns (r ∷ rs) = ap suc (length-patterns rs)

pub start_below : (n : ℕ) (rules : List MidRule) (lines : List Line) → lines ≡ lines_from 0 (patterns_of rules) → n ≡ length rules → are_below n lines
start_below n rules lines e q =
    subst (λ (x : List Line). are_below n x) (sym e) (subst (λ m. are_below m (lines_from 0 (patterns_of rules))) (length-patterns rules ∙ sym q) (first_below (patterns_of rules)))

pub answer_whole : (rules : List MidRule) (lines : List Line) (r : List Bool) (e : Bool) (c n : ℕ) → lines ≡ lines_from 0 (patterns_of rules) → AreOfOneType (patterns_of rules) → Progress lines [] r e c → length r ≡ n → n ≡ length rules
    → IsWhole (patterns_of rules) e r
answer_whole rules lines r e c n q t p l m =
    whole_answer (patterns_of rules) r e c t (subst (λ (x : List Line). Progress x [] r e c) q p) (l ∙ m ∙ sym (length-patterns rules))

pub answer_within : (limit : ℕ) (rules : List MidRule) (lines : List Line) (r : List Bool) (e : Bool) (c : ℕ) → lines ≡ lines_from 0 (patterns_of rules) → Progress lines [] r e c → c ≤ limit → SplitsWithin limit (patterns_of rules)
answer_within limit rules lines r e c q p l = count_within limit (patterns_of rules) r e c (subst (λ (x : List Line). Progress x [] r e c) q p) l

pub answer_over : (limit : ℕ) (rules : List MidRule) (lines : List Line) → lines ≡ lines_from 0 (patterns_of rules) → ((n : ℕ) → Splits (plain lines) n → limit < n) → SplitsWithin limit (patterns_of rules) → ⊥
answer_over limit rules lines q f x = count_over limit (patterns_of rules) (subst (λ (y : List Line). (n : ℕ) → Splits (plain y) n → limit < n) q f) x

pub answer_given_up : (rules : List MidRule) (r : List Bool) (n : ℕ) → r ≡ replicate n true → n ≡ length rules → IsGivenUp (patterns_of rules) false r
answer_given_up rules r n e q = record { not_exhaustive = refl; all_reached = e ∙ ap (λ m. replicate m true) (q ∙ sym (length-patterns rules)) }

-- what the walk answers of the matrix
abbrev pub Walked : List Line → ℕ → Option Tally → Type 0
Walked lines rules o = MatchOption o ((n : ℕ) → Splits (plain lines) n → SPLITS < n) (λ t. Progress lines [] t.reached.items t.exhaustive t.splits × (t.splits ≤ SPLITS) × (length t.reached.items ≡ rules))

pub not_true : false ≡ true → ⊥
not_true e = cc

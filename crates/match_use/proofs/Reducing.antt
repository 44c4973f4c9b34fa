-- A first column that is dropped or opened leaves what the matrix means.
use Rattle.std.proofs.Common.{◌≡◌, ℕ, List, [], ◌∷◌, map, Bool, true, false, ◌&&◌, ◌||◌, not, refl, sym, ◌∙◌, subst, ◌↔◌, ltb}
use Rattle.std.specs.List.{list_all}
use Rattle.std.proofs.lemmas.Bool.{and_parts, and_from}
use Rattle.sml_static.specs.Shapes.{Pattern, Wild, Parts, Cell, Literal, Made, Shape, AnyShape, PartsShape, CellShape, LiteralShape, MadeShape, first_part, other_parts, content, hits, misses}
use Rattle.sml_static.specs.Exhaustive.{Splits, wild, parts, cell, begins_wild, opens_parts, opens_cell, without_first, parts_opened, cell_opened, is_shape, are_named}
use Rattle.match_use.specs.Alike.{agree}
use Rattle.match_use.specs.Lines.{Line, plain, rows_agree, all_agree, first_shape, other_shapes, row_hits, row_misses}
use Rattle.match_use.specs.Steps.{dropped_line, parts_line, cell_line}
use Rattle.match_use.specs.Reduced.{IsReduced}
use Rattle.match_use.proofs.Tests.{all-map, pairs-map}
use Rattle.match_use.proofs.Inversions.{splits-wild, splits-parts, splits-cell}
use Rattle.match_use.proofs.Taking.{moved, plain-moved, KeepsRows, taken-moved, taken-moved_back}

-- how rows are changed, such that nothing is lost
pub record Moves (g : List Pattern → List Pattern) (c : List Pattern → Bool) : Type 0 where
  pub agree : (r s : List Pattern) → c r ≡ true → c s ≡ true → rows_agree r s ≡ true → rows_agree (g r) (g s) ≡ true
  pub named : (names : ℕ → List (List ℕ)) (r : List Pattern) → list_all (are_named names) r ≡ true → list_all (are_named names) (g r) ≡ true
  pub to : List Shape → List Shape
  pub from : List Shape → List Shape
  pub fit_to : (names : ℕ → List (List ℕ)) (ss : List Shape) → list_all (is_shape names) ss ≡ true → list_all (is_shape names) (to ss) ≡ true
  pub fit_from : (names : ℕ → List (List ℕ)) (tt : List Shape) → list_all (is_shape names) tt ≡ true → list_all (is_shape names) (from tt) ≡ true
  pub keeps_to : (ss : List Shape) → KeepsRows g c ss (to ss)
  pub keeps_from : (tt : List Shape) → KeepsRows g c (from tt) tt

reduced-moved : (g : List Pattern → List Pattern) (c : List Pattern → Bool) → Moves g c → (lines : List Line) → list_all c (plain lines) ≡ true → all_agree (plain lines) ≡ true
    → ((n : ℕ) → Splits (plain lines) n ↔ Splits (map g (plain lines)) n) → IsReduced lines (map (moved g) lines)
reduced-moved g c m lines e a s = record {
  splits = λ n. (λ x. subst (λ (r : List (List Pattern)). Splits r n) (sym (plain-moved g lines)) ((s n).0 x), λ x. (s n).1 (subst (λ (r : List (List Pattern)). Splits r n) (plain-moved g lines) x));
  agrees = subst (λ (r : List (List Pattern)). all_agree r ≡ true) (sym (plain-moved g lines)) (pairs-map g c rows_agree rows_agree m.agree (plain lines) e a);
  below = λ k b. all-map (moved g) (λ l. ltb l.rule k) (λ l. ltb l.rule k) (λ l. ltb l.rule k) (λ l x y. x) lines b b;
  named = λ names n. record { each = all-map (moved g) (λ l. list_all (are_named names) l.columns) (λ l. list_all (are_named names) l.columns) (λ l. list_all (are_named names) l.columns) (λ l x y. m.named names l.columns x) lines n.each n.each };
  taken = λ names o. (
    λ t. record { shapes = m.to t.shapes; fit = m.fit_to names t.shapes t.fit; taken = taken-moved g c t.shapes (m.to t.shapes) (m.keeps_to t.shapes) lines e o t.taken },
    λ t. record { shapes = m.from t.shapes; fit = m.fit_from names t.shapes t.fit; taken = taken-moved_back g c (m.from t.shapes) t.shapes (m.keeps_from t.shapes) lines e o t.taken },
  );
}

-- the parts of a shape can stand where it can
pub first_fit : (names : ℕ → List (List ℕ)) (ss : List Shape) → list_all (is_shape names) ss ≡ true → is_shape names (first_shape ss) ≡ true
first_fit names [] e = refl
first_fit names (s ∷ ss) e = (and_parts (is_shape names s) _ e).0

pub others_fit : (names : ℕ → List (List ℕ)) (ss : List Shape) → list_all (is_shape names) ss ≡ true → list_all (is_shape names) (other_shapes ss) ≡ true
others_fit names [] e = refl
others_fit names (s ∷ ss) e = (and_parts (is_shape names s) _ e).1

first_part_fit : (names : ℕ → List (List ℕ)) (s : Shape) → is_shape names s ≡ true → is_shape names (first_part s) ≡ true
first_part_fit names (PartsShape s t) e = (and_parts (is_shape names s) _ e).0
first_part_fit names AnyShape e = refl
first_part_fit names (CellShape s) e = refl
first_part_fit names (LiteralShape l) e = refl
first_part_fit names (MadeShape k s) e = refl

other_parts_fit : (names : ℕ → List (List ℕ)) (s : Shape) → is_shape names s ≡ true → is_shape names (other_parts s) ≡ true
other_parts_fit names (PartsShape s t) e = (and_parts (is_shape names s) _ e).1
other_parts_fit names AnyShape e = refl
other_parts_fit names (CellShape s) e = refl
other_parts_fit names (LiteralShape l) e = refl
other_parts_fit names (MadeShape k s) e = refl

content_fit : (names : ℕ → List (List ℕ)) (s : Shape) → is_shape names s ≡ true → is_shape names (content s) ≡ true
content_fit names (CellShape s) e = e
content_fit names AnyShape e = refl
content_fit names (PartsShape s t) e = refl
content_fit names (LiteralShape l) e = refl
content_fit names (MadeShape k s) e = refl

and_again : (a b c : Bool) → (a && (b && c)) ≡ ((a && b) && c)
and_again true b c = refl
and_again false b c = refl

or_again : (a b c : Bool) → (a || (b || c)) ≡ ((a || b) || c)
or_again true b c = refl
or_again false b c = refl

agree_wild : (p : Pattern) → agree p Wild ≡ true
agree_wild Wild = refl
agree_wild (Parts p q) = refl
agree_wild (Cell p) = refl
agree_wild (Literal l) = refl
agree_wild (Made k n p) = refl

drop_agree : (r s : List Pattern) → begins_wild r ≡ true → begins_wild s ≡ true → rows_agree r s ≡ true → rows_agree (without_first r) (without_first s) ≡ true
drop_agree [] s d e a = cc
drop_agree (p ∷ ps) [] d e a = cc
drop_agree (p ∷ ps) (q ∷ qs) d e a = (and_parts (agree p q) (rows_agree ps qs) a).1

drop_named : (names : ℕ → List (List ℕ)) (r : List Pattern) → list_all (are_named names) r ≡ true → list_all (are_named names) (without_first r) ≡ true
drop_named names [] e = refl
drop_named names (p ∷ ps) e = (and_parts (are_named names p) _ e).1

drop_hit : (r : List Pattern) (ss : List Shape) → begins_wild r ≡ true → row_hits (without_first r) (other_shapes ss) ≡ row_hits r ss
drop_hit [] ss e = cc
drop_hit (Wild ∷ ps) ss e = refl
drop_hit (Parts p q ∷ ps) ss e = cc
drop_hit (Cell p ∷ ps) ss e = cc
drop_hit (Literal l ∷ ps) ss e = cc
drop_hit (Made k n p ∷ ps) ss e = cc

drop_missed : (r : List Pattern) (ss : List Shape) → begins_wild r ≡ true → row_misses (without_first r) (other_shapes ss) ≡ row_misses r ss
drop_missed [] ss e = cc
drop_missed (Wild ∷ ps) ss e = refl
drop_missed (Parts p q ∷ ps) ss e = cc
drop_missed (Cell p ∷ ps) ss e = cc
drop_missed (Literal l ∷ ps) ss e = cc
drop_missed (Made k n p ∷ ps) ss e = cc

drop_moves : Moves without_first begins_wild
drop_moves = record {
  agree = drop_agree;
  named = drop_named;
  to = other_shapes;
  from = λ tt. AnyShape ∷ tt;
  fit_to = others_fit;
  fit_from = λ names tt e. e;
  keeps_to = λ ss. record { hit = λ r e. drop_hit r ss e; missed = λ r e. drop_missed r ss e };
  keeps_from = λ tt. record { hit = λ r e. drop_hit r (AnyShape ∷ tt) e; missed = λ r e. drop_missed r (AnyShape ∷ tt) e };
}

pub reduced-dropped : (lines : List Line) → list_all begins_wild (plain lines) ≡ true → all_agree (plain lines) ≡ true → IsReduced lines (map dropped_line lines)
reduced-dropped lines e a = reduced-moved without_first begins_wild drop_moves lines e a (λ n. (splits-wild (plain lines) n e, λ s. wild e s))

parts_agree : (r s : List Pattern) → opens_parts r ≡ true → opens_parts s ≡ true → rows_agree r s ≡ true → rows_agree (parts_opened r) (parts_opened s) ≡ true
parts_agree [] s d e a = cc
parts_agree (Cell p ∷ ps) s d e a = cc
parts_agree (Literal l ∷ ps) s d e a = cc
parts_agree (Made k n p ∷ ps) s d e a = cc
parts_agree (Wild ∷ ps) [] d e a = cc
parts_agree (Parts p q ∷ ps) [] d e a = cc
parts_agree (Wild ∷ ps) (Wild ∷ qs) d e a = a
parts_agree (Wild ∷ ps) (Parts u v ∷ qs) d e a = a
parts_agree (Wild ∷ ps) (Cell u ∷ qs) d e a = cc
parts_agree (Wild ∷ ps) (Literal l ∷ qs) d e a = cc
parts_agree (Wild ∷ ps) (Made k n u ∷ qs) d e a = cc
parts_agree (Parts p q ∷ ps) (Wild ∷ qs) d e a = and_from (agree p Wild) _ (agree_wild p) (and_from (agree q Wild) _ (agree_wild q) a)
parts_agree (Parts p q ∷ ps) (Parts u v ∷ qs) d e a = and_again (agree p u) (agree q v) (rows_agree ps qs) ∙ a
parts_agree (Parts p q ∷ ps) (Cell u ∷ qs) d e a = cc
parts_agree (Parts p q ∷ ps) (Literal l ∷ qs) d e a = cc
parts_agree (Parts p q ∷ ps) (Made k n u ∷ qs) d e a = cc

parts_named : (names : ℕ → List (List ℕ)) (r : List Pattern) → list_all (are_named names) r ≡ true → list_all (are_named names) (parts_opened r) ≡ true
parts_named names [] e = refl
parts_named names (Wild ∷ ps) e = e
parts_named names (Parts p q ∷ ps) e = and_again (are_named names p) (are_named names q) _ ∙ e
parts_named names (Cell p ∷ ps) e = e
parts_named names (Literal l ∷ ps) e = e
parts_named names (Made k n p ∷ ps) e = e

-- a shape of a tuple with these parts
abbrev parts_to : List Shape → List Shape
parts_to ss = first_part (first_shape ss) ∷ (other_parts (first_shape ss) ∷ other_shapes ss)

abbrev parts_from : List Shape → List Shape
parts_from tt = PartsShape (first_shape tt) (first_shape (other_shapes tt)) ∷ other_shapes (other_shapes tt)

parts_hit : (r : List Pattern) (ss : List Shape) → opens_parts r ≡ true → row_hits (parts_opened r) (parts_to ss) ≡ row_hits r ss
parts_hit [] ss e = cc
parts_hit (Wild ∷ ps) ss e = refl
parts_hit (Parts p q ∷ ps) ss e = and_again (hits p (first_part (first_shape ss))) (hits q (other_parts (first_shape ss))) (row_hits ps (other_shapes ss))
parts_hit (Cell p ∷ ps) ss e = cc
parts_hit (Literal l ∷ ps) ss e = cc
parts_hit (Made k n p ∷ ps) ss e = cc

parts_missed : (r : List Pattern) (ss : List Shape) → opens_parts r ≡ true → row_misses (parts_opened r) (parts_to ss) ≡ row_misses r ss
parts_missed [] ss e = cc
parts_missed (Wild ∷ ps) ss e = refl
parts_missed (Parts p q ∷ ps) ss e = or_again (misses p (first_part (first_shape ss))) (misses q (other_parts (first_shape ss))) (row_misses ps (other_shapes ss))
parts_missed (Cell p ∷ ps) ss e = cc
parts_missed (Literal l ∷ ps) ss e = cc
parts_missed (Made k n p ∷ ps) ss e = cc

parts_hit_back : (r : List Pattern) (tt : List Shape) → opens_parts r ≡ true → row_hits (parts_opened r) tt ≡ row_hits r (parts_from tt)
parts_hit_back [] tt e = cc
parts_hit_back (Wild ∷ ps) tt e = refl
parts_hit_back (Parts p q ∷ ps) tt e = and_again (hits p (first_shape tt)) (hits q (first_shape (other_shapes tt))) (row_hits ps (other_shapes (other_shapes tt)))
parts_hit_back (Cell p ∷ ps) tt e = cc
parts_hit_back (Literal l ∷ ps) tt e = cc
parts_hit_back (Made k n p ∷ ps) tt e = cc

parts_missed_back : (r : List Pattern) (tt : List Shape) → opens_parts r ≡ true → row_misses (parts_opened r) tt ≡ row_misses r (parts_from tt)
parts_missed_back [] tt e = cc
parts_missed_back (Wild ∷ ps) tt e = refl
parts_missed_back (Parts p q ∷ ps) tt e = or_again (misses p (first_shape tt)) (misses q (first_shape (other_shapes tt))) (row_misses ps (other_shapes (other_shapes tt)))
parts_missed_back (Cell p ∷ ps) tt e = cc
parts_missed_back (Literal l ∷ ps) tt e = cc
parts_missed_back (Made k n p ∷ ps) tt e = cc

parts_fit_to : (names : ℕ → List (List ℕ)) (ss : List Shape) → list_all (is_shape names) ss ≡ true → list_all (is_shape names) (parts_to ss) ≡ true
parts_fit_to names ss e =
    and_from (is_shape names (first_part (first_shape ss))) _ (first_part_fit names (first_shape ss) (first_fit names ss e))
    (and_from (is_shape names (other_parts (first_shape ss))) _ (other_parts_fit names (first_shape ss) (first_fit names ss e)) (others_fit names ss e))

parts_fit_from : (names : ℕ → List (List ℕ)) (tt : List Shape) → list_all (is_shape names) tt ≡ true → list_all (is_shape names) (parts_from tt) ≡ true
parts_fit_from names tt e =
    let others = others_fit names tt e in
    and_from (is_shape names (PartsShape (first_shape tt) (first_shape (other_shapes tt)))) _
    (and_from (is_shape names (first_shape tt)) _ (first_fit names tt e) (first_fit names (other_shapes tt) others)) (others_fit names (other_shapes tt) others)

parts_moves : Moves parts_opened opens_parts
parts_moves = record {
  agree = parts_agree;
  named = parts_named;
  to = parts_to;
  from = parts_from;
  fit_to = parts_fit_to;
  fit_from = parts_fit_from;
  keeps_to = λ ss. record { hit = λ r e. parts_hit r ss e; missed = λ r e. parts_missed r ss e };
  keeps_from = λ tt. record { hit = λ r e. parts_hit_back r tt e; missed = λ r e. parts_missed_back r tt e };
}

pub reduced-parts : (lines : List Line) → list_all opens_parts (plain lines) ≡ true → not (list_all begins_wild (plain lines)) ≡ true → all_agree (plain lines) ≡ true → IsReduced lines (map parts_line lines)
reduced-parts lines e v a = reduced-moved parts_opened opens_parts parts_moves lines e a (λ n. (splits-parts (plain lines) n e v, λ s. parts e v s))

cell_agree : (r s : List Pattern) → opens_cell r ≡ true → opens_cell s ≡ true → rows_agree r s ≡ true → rows_agree (cell_opened r) (cell_opened s) ≡ true
cell_agree [] s d e a = cc
cell_agree (Parts p q ∷ ps) s d e a = cc
cell_agree (Literal l ∷ ps) s d e a = cc
cell_agree (Made k n p ∷ ps) s d e a = cc
cell_agree (Wild ∷ ps) [] d e a = cc
cell_agree (Cell p ∷ ps) [] d e a = cc
cell_agree (Wild ∷ ps) (Wild ∷ qs) d e a = a
cell_agree (Wild ∷ ps) (Cell u ∷ qs) d e a = a
cell_agree (Wild ∷ ps) (Parts u v ∷ qs) d e a = cc
cell_agree (Wild ∷ ps) (Literal l ∷ qs) d e a = cc
cell_agree (Wild ∷ ps) (Made k n u ∷ qs) d e a = cc
cell_agree (Cell p ∷ ps) (Wild ∷ qs) d e a = and_from (agree p Wild) _ (agree_wild p) a
cell_agree (Cell p ∷ ps) (Cell u ∷ qs) d e a = a
cell_agree (Cell p ∷ ps) (Parts u v ∷ qs) d e a = cc
cell_agree (Cell p ∷ ps) (Literal l ∷ qs) d e a = cc
cell_agree (Cell p ∷ ps) (Made k n u ∷ qs) d e a = cc

cell_named : (names : ℕ → List (List ℕ)) (r : List Pattern) → list_all (are_named names) r ≡ true → list_all (are_named names) (cell_opened r) ≡ true
cell_named names [] e = refl
cell_named names (Wild ∷ ps) e = e
cell_named names (Parts p q ∷ ps) e = e
cell_named names (Cell p ∷ ps) e = e
cell_named names (Literal l ∷ ps) e = e
cell_named names (Made k n p ∷ ps) e = e

abbrev cell_to : List Shape → List Shape
cell_to ss = content (first_shape ss) ∷ other_shapes ss

abbrev cell_from : List Shape → List Shape
cell_from tt = CellShape (first_shape tt) ∷ other_shapes tt

cell_hit : (r : List Pattern) (ss : List Shape) → opens_cell r ≡ true → row_hits (cell_opened r) (cell_to ss) ≡ row_hits r ss
cell_hit [] ss e = cc
cell_hit (Wild ∷ ps) ss e = refl
cell_hit (Parts p q ∷ ps) ss e = cc
cell_hit (Cell p ∷ ps) ss e = refl
cell_hit (Literal l ∷ ps) ss e = cc
cell_hit (Made k n p ∷ ps) ss e = cc

cell_missed : (r : List Pattern) (ss : List Shape) → opens_cell r ≡ true → row_misses (cell_opened r) (cell_to ss) ≡ row_misses r ss
cell_missed [] ss e = cc
cell_missed (Wild ∷ ps) ss e = refl
cell_missed (Parts p q ∷ ps) ss e = cc
cell_missed (Cell p ∷ ps) ss e = refl
cell_missed (Literal l ∷ ps) ss e = cc
cell_missed (Made k n p ∷ ps) ss e = cc

cell_hit_back : (r : List Pattern) (tt : List Shape) → opens_cell r ≡ true → row_hits (cell_opened r) tt ≡ row_hits r (cell_from tt)
cell_hit_back [] tt e = cc
cell_hit_back (Wild ∷ ps) tt e = refl
cell_hit_back (Parts p q ∷ ps) tt e = cc
cell_hit_back (Cell p ∷ ps) tt e = refl
cell_hit_back (Literal l ∷ ps) tt e = cc
cell_hit_back (Made k n p ∷ ps) tt e = cc

cell_missed_back : (r : List Pattern) (tt : List Shape) → opens_cell r ≡ true → row_misses (cell_opened r) tt ≡ row_misses r (cell_from tt)
cell_missed_back [] tt e = cc
cell_missed_back (Wild ∷ ps) tt e = refl
cell_missed_back (Parts p q ∷ ps) tt e = cc
cell_missed_back (Cell p ∷ ps) tt e = refl
cell_missed_back (Literal l ∷ ps) tt e = cc
cell_missed_back (Made k n p ∷ ps) tt e = cc

cell_moves : Moves cell_opened opens_cell
cell_moves = record {
  agree = cell_agree;
  named = cell_named;
  to = cell_to;
  from = cell_from;
  fit_to = λ names ss e. and_from (is_shape names (content (first_shape ss))) _ (content_fit names (first_shape ss) (first_fit names ss e)) (others_fit names ss e);
  fit_from = λ names tt e. and_from (is_shape names (CellShape (first_shape tt))) _ (first_fit names tt e) (others_fit names tt e);
  keeps_to = λ ss. record { hit = λ r e. cell_hit r ss e; missed = λ r e. cell_missed r ss e };
  keeps_from = λ tt. record { hit = λ r e. cell_hit_back r tt e; missed = λ r e. cell_missed_back r tt e };
}

pub reduced-cell : (lines : List Line) → list_all opens_cell (plain lines) ≡ true → not (list_all begins_wild (plain lines)) ≡ true → all_agree (plain lines) ≡ true → IsReduced lines (map cell_line lines)
reduced-cell lines e v a = reduced-moved cell_opened opens_cell cell_moves lines e a (λ n. (splits-cell (plain lines) n e v, λ s. cell e v s))

-- a matrix means what it does itself, and what a third does by way of a second
pub reduced-same : (lines : List Line) → all_agree (plain lines) ≡ true → IsReduced lines lines
reduced-same lines a = record { splits = λ n. (λ x. x, λ x. x); agrees = a; below = λ k x. x; named = λ names x. x; taken = λ names o. (λ x. x, λ x. x) }

pub reduced-again : (a b c : List Line) → IsReduced a b → IsReduced b c → IsReduced a c
reduced-again a b c p q = record {
  splits = λ n. (λ x. (q.splits n).0 ((p.splits n).0 x), λ x. (p.splits n).1 ((q.splits n).1 x));
  agrees = q.agrees;
  below = λ k x. q.below k (p.below k x);
  named = λ names x. q.named names (p.named names x);
  taken = λ names o. (λ x. (q.taken names o).0 ((p.taken names o).0 x), λ x. (p.taken names o).1 ((q.taken names o).1 x));
}

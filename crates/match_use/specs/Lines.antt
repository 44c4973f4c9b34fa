-- The rows of a matrix, and what a shape for each column does to them.
use Rattle.std.specs.Prelude.{◌≡◌, ◌&&◌, ◌||◌, ◌⊎◌, ℕ, Bool, true, false, IsTrue, List, [], ◌∷◌, map, Option, Some, None, Vec}
use Rattle.std.specs.List.{list_all}
use Rattle.std.proofs.Common.{Global}
use Rattle.sml_static.specs.Shapes.{Pattern, Shape, AnyShape, hits, misses}
use Rattle.sml_static.specs.Exhaustive.{are_named, is_shape}
use Rattle.match_use.specs.Alike.{agree}
use Rattle.match_use.specs.Columns.{column_of}
use Rattle.match_use.specs.declared.row.Columns.{Columns, fold-Columns}
use Rattle.match_use.specs.declared.row.Columns.TheOpen.{Columns-F}
use Rattle.match_use.specs.declared.row.Row.{Row}

-- a row: its rule, and a pattern for each column
pub record Line : Type 0 where
  pub rule : ℕ
  pub columns : List Pattern

-- one level of `columns_of`
abbrev pub columns_step : Columns-F (List Pattern) → List Pattern
columns_step Columns-F.End = []
columns_step (Columns-F.More column others) = column_of column ∷ others.now

abbrev pub columns_of : Columns → List Pattern
columns_of = fold-Columns (List Pattern) columns_step

abbrev pub line_of : Row → Line
line_of row = record { rule = row.rule; columns = columns_of row.columns }

abbrev pub lines_of : List Row → List Line
lines_of = map line_of

abbrev pub matrices_of : List (Vec Row Global) → List (List Line)
matrices_of = map (λ v. lines_of v.items)

-- the matrix without the rules
abbrev pub plain : List Line → List (List Pattern)
plain = map (λ l. l.columns)

-- whether two rows can be of one type
abbrev pub rows_agree : List Pattern → List Pattern → Bool
rows_agree [] [] = true
rows_agree [] (q ∷ qs) = false
rows_agree (p ∷ ps) [] = false
rows_agree (p ∷ ps) (q ∷ qs) = agree p q && rows_agree ps qs

-- whether each two rows can
abbrev pub all_agree : List (List Pattern) → Bool
all_agree rows = list_all (λ r. list_all (rows_agree r) rows) rows

-- the shape of the first column, and those of the others
abbrev pub first_shape : List Shape → Shape
first_shape [] = AnyShape
first_shape (s ∷ ss) = s

abbrev pub other_shapes : List Shape → List Shape
other_shapes [] = []
other_shapes (s ∷ ss) = ss

-- whether the shapes hit each pattern of a row
abbrev pub row_hits : List Pattern → List Shape → Bool
row_hits [] ss = true
row_hits (p ∷ ps) ss = hits p (first_shape ss) && row_hits ps (other_shapes ss)

-- whether one of them misses its pattern
abbrev pub row_misses : List Pattern → List Shape → Bool
row_misses [] ss = false
row_misses (p ∷ ps) ss = misses p (first_shape ss) || row_misses ps (other_shapes ss)

-- the shapes hit the row of this rule and miss all before it; for no rule, they miss all rows
abbrev pub TakenBy : List Line → Option ℕ → List Shape → Type 0
TakenBy [] o ss = o ≡ None
TakenBy (l ∷ ls) o ss = (IsTrue (row_hits l.columns ss) × (o ≡ Some l.rule)) ⊎ (IsTrue (row_misses l.columns ss) × TakenBy ls o ss)

-- names of datatypes that fit each pattern of the matrix
pub record AreNamed (names : ℕ → List (List ℕ)) (lines : List Line) : Type 0 where
  pub each : IsTrue (list_all (λ l. list_all (are_named names) l.columns) lines)

-- some shapes with these names are taken by the rule, or by none
pub record IsTaken (names : ℕ → List (List ℕ)) (lines : List Line) (o : Option ℕ) : Type 0 where
  pub shapes : List Shape
  pub fit : IsTrue (list_all (is_shape names) shapes)
  pub taken : TakenBy lines o shapes

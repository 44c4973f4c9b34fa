-- Exhaustive rules, rules that are reached, and the count of splits.
use Rattle.std.specs.Prelude.{◌≡◌, ◌==◌, ◌&&◌, ◌+◌, ◌<◌, ℕ, suc, nat_lt, cond, length, Bool, true, false, not, IsTrue, List, [], ◌∷◌, ◌++◌, map, take, All, Option, Some, None}
use Rattle.std.specs.List.{list_all, list_any, filter_map, slice_index_or}
use Rattle.std.specs.Str.{bytes_eq}
use Rattle.tl_text.specs.declared.lit.Lit.{Lit}
use Rattle.tl_text.specs.declared.lit.Lit.TheVariants as lit
use Rattle.sml_static.specs.Shapes.{Key, Of, Exn, Pattern, Wild, Parts, Cell, Literal, Made, Shape, AnyShape, PartsShape, CellShape, LiteralShape, MadeShape, is_same_key, is_same_literal, hits, misses}
use Rattle.sml_static.specs.WellFormed.{are_distinct}

-- whether a constructor's datatype has n names, its own among them
abbrev pub is_named : (ℕ → List (List ℕ)) → ℕ → Key → Bool
is_named names n (Of d name) = (length (names d) == n) && are_distinct (names d) && list_any (bytes_eq name) (names d)
is_named names n (Exn path) = true

-- whether this holds of each constructor of a pattern
abbrev pub are_named : (ℕ → List (List ℕ)) → Pattern → Bool
are_named names Wild = true
are_named names (Parts p q) = are_named names p && are_named names q
are_named names (Cell p) = are_named names p
are_named names (Literal l) = true
are_named names (Made k n p) = is_named names n k && are_named names p

-- whether a literal can stand in a shape: characters are below 256
abbrev pub can_stand : Lit → Bool
can_stand (lit.Char c) = nat_lt c 256
can_stand _ = true

-- whether a constructor can: those of datatypes have the datatype's names
abbrev pub can_be_made : (ℕ → List (List ℕ)) → Key → Bool
can_be_made names (Of d name) = list_any (bytes_eq name) (names d)
can_be_made names (Exn path) = true

-- whether each literal and constructor of a shape can stand there
abbrev pub is_shape : (ℕ → List (List ℕ)) → Shape → Bool
is_shape names AnyShape = true
is_shape names (PartsShape s t) = is_shape names s && is_shape names t
is_shape names (CellShape s) = is_shape names s
is_shape names (LiteralShape l) = can_stand l
is_shape names (MadeShape k s) = can_be_made names k && is_shape names s

-- names of datatypes that the rules fit, and a shape with these names
pub record IsShapeFor (rules : List Pattern) (names : ℕ → List (List ℕ)) (s : Shape) : Type 0 where
  pub named : IsTrue (list_all (are_named names) rules)
  pub shape : IsTrue (is_shape names s)

-- no shape misses all rules
abbrev pub IsExhaustive : List Pattern → Type 0
IsExhaustive rules =
    (names : ℕ → List (List ℕ)) (s : Shape) → IsShapeFor rules names s → IsTrue (list_all (λ p. misses p s) rules) → ⊥

-- some shape hits the rule at this place, and misses all before it
pub record IsReached (rules : List Pattern) (place : ℕ) : Type 0 where
  pub names : ℕ → List (List ℕ)
  pub shape : Shape
  pub fits : IsShapeFor rules names shape
  pub within : place < length rules
  pub hit : IsTrue (hits (slice_index_or rules place Wild) shape)
  pub missed : IsTrue (list_all (λ p. misses p shape) (take place rules))

-- what a column is split by: a literal, a constructor with how many its datatype has, or another than those in the column
pub data Head : Type 0 where
  HeadLiteral : Lit → Head
  HeadKey : Key → ℕ → Head
  Another : Head

-- whether two heads are alike
abbrev pub is_same_head : Head → Head → Bool
is_same_head (HeadLiteral l) (HeadLiteral m) = is_same_literal l m
is_same_head (HeadKey k n) (HeadKey j m) = is_same_key k j
is_same_head _ _ = false

-- the head with which a row begins, where it begins with one
abbrev pub head_of : List Pattern → Option Head
head_of (Literal l ∷ ps) = Some (HeadLiteral l)
head_of (Made k n p ∷ ps) = Some (HeadKey k n)
head_of _ = None

-- each head once, in order
abbrev pub once : List Head → List Head → List Head
once seen [] = []
once seen (h ∷ hs) = cond (list_any (is_same_head h) seen) (once seen hs) (h ∷ once (h ∷ seen) hs)

-- the heads of the first column
abbrev pub heads : List (List Pattern) → List Head
heads rows = once [] (filter_map head_of rows)

-- whether the type of a column whose first head is this has others than this many heads
abbrev pub has_others : Head → ℕ → Bool
has_others (HeadLiteral (lit.Char c)) count = nat_lt count 256
has_others (HeadLiteral _) count = true
has_others (HeadKey (Of d name) n) count = nat_lt count n
has_others (HeadKey (Exn path) n) count = true
has_others Another count = true

-- the heads that are split by: those of the column, and another where there are others
abbrev pub split_by : List Head → List Head
split_by [] = []
split_by (h ∷ hs) = cond (has_others h (length (h ∷ hs))) ((h ∷ hs) ++ Another ∷ []) (h ∷ hs)

-- what is left of a row for a head
abbrev pub kept_row : Head → List Pattern → Option (List Pattern)
kept_row (HeadLiteral l) (Wild ∷ ps) = Some ps
kept_row (HeadLiteral l) (Literal m ∷ ps) = cond (is_same_literal l m) (Some ps) None
kept_row (HeadKey k n) (Wild ∷ ps) = Some (Wild ∷ ps)
kept_row (HeadKey k n) (Made j m p ∷ ps) = cond (is_same_key k j) (Some (p ∷ ps)) None
kept_row Another (Wild ∷ ps) = Some ps
kept_row _ _ = None

-- the matrix kept for a head
abbrev pub kept : Head → List (List Pattern) → List (List Pattern)
kept h = filter_map (kept_row h)

-- whether a row begins with a wildcard
abbrev pub begins_wild : List Pattern → Bool
begins_wild (Wild ∷ ps) = true
begins_wild _ = false

-- a row without its first column
abbrev pub without_first : List Pattern → List Pattern
without_first [] = []
without_first (p ∷ ps) = ps

-- whether a row begins with a tuple, or a reference's content, or a wildcard
abbrev pub opens_parts : List Pattern → Bool
opens_parts (Parts p q ∷ ps) = true
opens_parts row = begins_wild row

abbrev pub opens_cell : List Pattern → Bool
opens_cell (Cell p ∷ ps) = true
opens_cell row = begins_wild row

-- a row with its first column opened
abbrev pub parts_opened : List Pattern → List Pattern
parts_opened (Parts p q ∷ ps) = p ∷ (q ∷ ps)
parts_opened (Wild ∷ ps) = Wild ∷ (Wild ∷ ps)
parts_opened row = row

abbrev pub cell_opened : List Pattern → List Pattern
cell_opened (Cell p ∷ ps) = p ∷ ps
cell_opened row = row

mutual
  -- the count of splits of a matrix of patterns
  pub data Splits : List (List Pattern) → ℕ → Type 0 where
    no_rows : Splits [] 0
    no_columns : {rows : List (List Pattern)} → All (λ row. row ≡ []) rows → Splits rows 0
    wild : {rows : List (List Pattern)} {n : ℕ} → IsTrue (list_all begins_wild rows) → Splits (map without_first rows) n → Splits rows n
    parts : {rows : List (List Pattern)} {n : ℕ} → IsTrue (list_all opens_parts rows) → IsTrue (not (list_all begins_wild rows))
        → Splits (map parts_opened rows) n → Splits rows n
    cell : {rows : List (List Pattern)} {n : ℕ} → IsTrue (list_all opens_cell rows) → IsTrue (not (list_all begins_wild rows))
        → Splits (map cell_opened rows) n → Splits rows n
    split : {rows : List (List Pattern)} {n : ℕ} {h : Head} {hs : List Head} → heads rows ≡ h ∷ hs → SplitsOfAll rows (split_by (h ∷ hs)) n → Splits rows n

  -- the sum of 1 and the count of the matrix kept, for each head
  pub data SplitsOfAll : List (List Pattern) → List Head → ℕ → Type 0 where
    done : {rows : List (List Pattern)} → SplitsOfAll rows [] 0
    more : {rows : List (List Pattern)} {h : Head} {hs : List Head} {m n : ℕ} → Splits (kept h rows) m → SplitsOfAll rows hs n → SplitsOfAll rows (h ∷ hs) (suc m + n)

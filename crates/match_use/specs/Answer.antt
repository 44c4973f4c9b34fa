-- What is answered of the rules of a match.
use Rattle.std.specs.Prelude.{◌≡◌, ◌↔◌, ◌+◌, ◌<◌, ◌≤◌, ℕ, Bool, true, false, IsTrue, List, [], ◌∷◌, map, length, replicate}
use Rattle.std.specs.List.{slice_index_or}
use Rattle.sml_static.specs.Shapes.{Pattern, pattern_of}
use Rattle.sml_static.specs.Exhaustive.{Splits, IsExhaustive, IsReached}
use Rattle.mid_ast.specs.declared.exp.MidRule.{MidRule, out-MidRule}
use Rattle.match_use.specs.Lines.{Line}

-- the patterns of rules, without names and types
abbrev pub patterns_of : List MidRule → List Pattern
patterns_of = map (λ r. pattern_of (out-MidRule r).pat)

-- the matrix of patterns, which has one column
abbrev pub matrix_of : List Pattern → List (List Pattern)
matrix_of = map (λ p. p ∷ [])

-- the same with the rules, from a number on
abbrev pub lines_from : ℕ → List Pattern → List Line
lines_from k [] = []
lines_from k (p ∷ ps) = record { rule = k; columns = p ∷ [] } ∷ lines_from (k + 1) ps

-- the patterns split at most that often
abbrev pub SplitsWithin : ℕ → List Pattern → Type 0
SplitsWithin limit patterns = (n : ℕ) × Splits (matrix_of patterns) n × (n ≤ limit)

-- the answer where it is exact
pub record IsWhole (patterns : List Pattern) (exhaustive : Bool) (reached : List Bool) : Type 0 where
  pub takes_all : IsTrue exhaustive ↔ IsExhaustive patterns
  pub rules : length reached ≡ length patterns
  pub each : (i : ℕ) → i < length patterns → IsTrue (slice_index_or reached i false) ↔ IsReached patterns i

-- the answer where the patterns split more often: not exhaustive, and each rule reached
pub record IsGivenUp (patterns : List Pattern) (exhaustive : Bool) (reached : List Bool) : Type 0 where
  pub not_exhaustive : exhaustive ≡ false
  pub all_reached : reached ≡ replicate (length patterns) true

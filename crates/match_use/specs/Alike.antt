-- Patterns that can be of one type.
use Rattle.std.specs.Prelude.{◌&&◌, ◌||◌, ℕ, Bool, true, false, IsTrue, List}
use Rattle.std.specs.List.{list_all}
use Rattle.sml_static.specs.Shapes.{Pattern, Wild, Parts, Cell, Literal, Made, is_same_key, is_other_key, is_same_literal, is_other_literal}
use Rattle.sml_static.specs.Exhaustive.{are_named}

-- whether two patterns can be of one type: where both have something it is two tuples, two references, two literals of one
-- type, or two constructors of one datatype or two exceptions, and alike constructors have arguments that can be of one type
abbrev pub agree : Pattern → Pattern → Bool
agree Wild q = true
agree (Parts p q) Wild = true
agree (Cell p) Wild = true
agree (Literal l) Wild = true
agree (Made k n p) Wild = true
agree (Parts p q) (Parts r s) = agree p r && agree q s
agree (Cell p) (Cell q) = agree p q
agree (Literal l) (Literal m) = is_same_literal l m || is_other_literal l m
agree (Made k n p) (Made j m q) = (is_same_key k j && agree p q) || is_other_key k j
agree _ _ = false

-- The patterns of a match that typing allows. It types all of them at one type, so each two agree: at each place both have
-- parts of one type, a literal tells its type, a constructor its datatype, and the types of the whole and of a constructor
-- fix that of its argument. And the constructors of each datatype have their names, as many as the datatype has constructors.
pub record AreOfOneType (patterns : List Pattern) : Type 0 where
  pub agreeing : IsTrue (list_all (λ p. list_all (agree p) patterns) patterns)
  pub names : ℕ → List (List ℕ)
  pub named : IsTrue (list_all (are_named names) patterns)

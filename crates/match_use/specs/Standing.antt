-- Constructors of datatypes that stand in patterns, and whether the datatypes can have them all.
use Rattle.std.specs.Prelude.{◌==◌, ◌&&◌, ◌||◌, ℕ, nat_lt, cond, Bool, true, not, List, [], ◌∷◌, ◌++◌, length}
use Rattle.std.specs.List.{list_all, list_any}
use Rattle.std.specs.Str.{bytes_eq}
use Rattle.sml_static.specs.Shapes.{Key, Of, Exn, Pattern, Wild, Parts, Cell, Literal, Made}
use Rattle.match_use.specs.declared.constructor.Constructor.{Constructor}

-- a constructor: the number of its datatype, its name, and how many constructors its pattern says that the datatype has
pub record Standing : Type 0 where
  pub datatype : ℕ
  pub name : List ℕ
  pub count : ℕ

abbrev pub standing_of : Constructor → Standing
standing_of c = record { datatype = c.datatype; name = c.name.now; count = c.count }

-- the constructors of datatypes at a pattern, in it, and in some patterns
abbrev pub standing_at : Key → ℕ → List Standing
standing_at (Of d name) n = record { datatype = d; name = name; count = n } ∷ []
standing_at (Exn path) n = []

abbrev pub standing_in : Pattern → List Standing
standing_in Wild = []
standing_in (Parts p q) = standing_in p ++ standing_in q
standing_in (Cell p) = standing_in p
standing_in (Literal l) = []
standing_in (Made k n p) = standing_at k n ++ standing_in p

abbrev pub all_standing : List Pattern → List Standing
all_standing [] = []
all_standing (p ∷ ps) = standing_in p ++ all_standing ps

-- whether it is of that datatype
abbrev pub is_of : ℕ → Standing → Bool
is_of d c = c.datatype == d

-- whether two are alike
abbrev pub is_alike : Standing → Standing → Bool
is_alike c e = (c.datatype == e.datatype) && bytes_eq c.name e.name

-- whether two of one datatype say the same number, and each two of some
abbrev pub counts_agree : Standing → Standing → Bool
counts_agree c e = not (c.datatype == e.datatype) || (c.count == e.count)

abbrev pub all_counts_agree : List Standing → Bool
all_counts_agree cs = list_all (λ c. list_all (counts_agree c) cs) cs

-- the names of a datatype's constructors, each once
abbrev pub names_of : ℕ → List Standing → List (List ℕ)
names_of d [] = []
names_of d (c ∷ cs) = cond (is_of d c && not (list_any (is_alike c) cs)) (c.name ∷ names_of d cs) (names_of d cs)

-- whether there are no more names than the constructor says
abbrev pub is_few : List Standing → Standing → Bool
is_few all c = not (nat_lt c.count (length (names_of c.datatype all)))

-- the same of each that is the last one of its datatype
abbrev pub each_few : List Standing → List Standing → Bool
each_few all [] = true
each_few all (c ∷ cs) = (list_any (is_of c.datatype) cs || is_few all c) && each_few all cs

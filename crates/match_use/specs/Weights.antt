-- How much of a matrix is left to take apart.
use Rattle.std.specs.Prelude.{ℕ, ◌+◌, ◌*◌, List, [], ◌∷◌, length}
use Rattle.sml_static.specs.Shapes.{Pattern, Wild, Parts, Cell, Literal, Made}

-- how many tuples, references, literals and constructors a pattern has
abbrev pub nodes : Pattern → ℕ
nodes Wild = 0
nodes (Parts p q) = 1 + nodes p + nodes q
nodes (Cell p) = 1 + nodes p
nodes (Literal l) = 1
nodes (Made k n p) = 1 + nodes p

abbrev pub row_nodes : List Pattern → ℕ
row_nodes [] = 0
row_nodes (p ∷ ps) = nodes p + row_nodes ps

abbrev pub all_nodes : List (List Pattern) → ℕ
all_nodes [] = 0
all_nodes (r ∷ rs) = row_nodes r + all_nodes rs

-- how many columns the first row has
abbrev pub width : List (List Pattern) → ℕ
width [] = 0
width (r ∷ rs) = length r

-- twice the nodes, and the columns: opening a tuple takes a node away and adds a column
abbrev pub weight : List (List Pattern) → ℕ
weight rows = 2 * all_nodes rows + width rows

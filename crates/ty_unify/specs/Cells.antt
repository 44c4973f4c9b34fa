-- The assignments of trees to nodes that a store's cells allow.
use Rattle.std.specs.Prelude.{ℕ, ◌+◌, ◌*◌, ◌%◌, ◌^◌, ◌≡◌, ◌<◌, List, [], ◌∷◌, length, slice_index_or, slice_set, Bool, true, false}
use Rattle.sml_static.specs.declared.ty.Label.{Label}
use Rattle.sml_static.specs.declared.ty.Label.TheVariants as label
use Rattle.ty_unify.specs.declared.cell.Cell.{Cell}
use Rattle.ty_unify.specs.declared.cell.Shape.{Shape}
use Rattle.ty_unify.specs.declared.cell.Shape.TheVariants.{Open, Same, Const, Pair}
use Rattle.ty_unify.specs.declared.cell.Sort.{Sort}
use Rattle.ty_unify.specs.declared.cell.Sort.TheVariants as sort
use Rattle.ty_unify.specs.declared.cell.Tag.{Tag}
use Rattle.ty_unify.specs.declared.cell.Tag.TheVariants as tag
use Rattle.ty_unify.specs.declared.cell.Asked.{Asked}
use Rattle.ty_unify.specs.declared.cell.Asked.TheVariants.{Never, Both}
use Rattle.ty_unify.specs.Trees.{Tree, Atom, Fork, Head, Arrow, Named, Record, Field, Argument, NoFields, LastField, LastArgument, Admits, asks_name}

-- the cell of a node; past the end nothing is known
abbrev pub open_cell : Cell
open_cell = record { shape = Open; equal = false }

abbrev pub cell_at : List Cell → ℕ → Cell
cell_at cells i = slice_index_or cells i open_cell

-- the head that a tag is, in a store with these labels
abbrev pub head_of : List Label → Tag → Head
head_of labels tag.Arrow = Arrow
head_of labels (tag.Named n) = Named n
head_of labels (tag.Record l) = Record (slice_index_or labels l (label.Num 0))
head_of labels (tag.Field l) = Field (slice_index_or labels l (label.Num 0))
head_of labels tag.Argument = Argument
head_of labels tag.NoFields = NoFields
head_of labels tag.LastField = LastField
head_of labels tag.LastArgument = LastArgument

-- what equality asks under a tag
abbrev pub asked_of : Tag → Asked
asked_of tag.Arrow = Never
asked_of (tag.Named n) = asks_name n
asked_of (tag.Record l) = Both
asked_of (tag.Field l) = Both
asked_of tag.Argument = Both
asked_of tag.NoFields = Both
asked_of tag.LastField = Both
asked_of tag.LastArgument = Both

-- the assignment gives a node what its shape says
abbrev pub ShapeHolds : List Label → Shape → ℕ → (ℕ → Tree) → Type 0
ShapeHolds labels Open i θ = Unit {0}
ShapeHolds labels (Same j s) i θ = θ i ≡ θ j
ShapeHolds labels (Const t) i θ = θ i ≡ Atom (head_of labels t)
ShapeHolds labels (Pair t a b) i θ = θ i ≡ Fork (head_of labels t) (θ a) (θ b)

-- the assignment gives each node what its shape says
pub record Shaped (labels : List Label) (cells : List Cell) (θ : ℕ → Tree) : Type 0 where
  pub holds : (i : ℕ) → ShapeHolds labels (cell_at cells i).shape i θ

-- a bound is kept, where A says what it asks
abbrev pub BoundBy : (Tree → Type 0) → Bool → Tree → Type 0
BoundBy A false t = Unit {0}
BoundBy A true t = A t

-- the bound of a cell, where A says what is asked of an open node, and B of one that has a head; a link has none
abbrev pub Bounded : (Tree → Type 0) → (Tree → Type 0) → Shape → Bool → Tree → Type 0
Bounded A B Open e t = BoundBy A e t
Bounded A B (Same j s) e t = Unit {0}
Bounded A B (Const h) e t = BoundBy B e t
Bounded A B (Pair h a b) e t = BoundBy B e t

-- the assignment gives a node what its cell says
abbrev pub Held : List Label → (Tree → Type 0) → (Tree → Type 0) → Cell → ℕ → (ℕ → Tree) → Type 0
Held labels A B c i θ = ShapeHolds labels c.shape i θ × Bounded A B c.shape c.equal (θ i)

-- the assignment gives each node what its cell says: the solutions of a store
pub record Solves (labels : List Label) (cells : List Cell) (θ : ℕ → Tree) : Type 0 where
  pub holds : (i : ℕ) → Held labels Admits Admits (cell_at cells i) i θ

-- the sort of a node with this tag, and of its second part; a first part is a type
abbrev pub tag_sort : Tag → Sort
tag_sort tag.Arrow = sort.Type
tag_sort (tag.Named n) = sort.Type
tag_sort (tag.Record l) = sort.Type
tag_sort (tag.Field l) = sort.Fields
tag_sort tag.Argument = sort.Arguments
tag_sort tag.NoFields = sort.Type
tag_sort tag.LastField = sort.Fields
tag_sort tag.LastArgument = sort.Arguments

abbrev pub rest_sort : Tag → Sort
rest_sort tag.Arrow = sort.Type
rest_sort (tag.Named n) = sort.Arguments
rest_sort (tag.Record l) = sort.Fields
rest_sort (tag.Field l) = sort.Fields
rest_sort tag.Argument = sort.Arguments
rest_sort tag.NoFields = sort.Fields
rest_sort tag.LastField = sort.Fields
rest_sort tag.LastArgument = sort.Arguments

abbrev pub shape_sort : Shape → Sort
shape_sort Open = sort.Type
shape_sort (Same j s) = s
shape_sort (Const t) = tag_sort t
shape_sort (Pair t a b) = tag_sort t

abbrev pub cell_sort : Cell → Sort
cell_sort c = shape_sort c.shape

abbrev pub sort_at : List Cell → ℕ → Sort
sort_at cells i = cell_sort (cell_at cells i)

-- a number of each node, as if it were drawn: links lead to smaller ones, so that few lead on from one another
abbrev pub drawn : ℕ → ℕ
drawn i = i * 11400714819323198485 % 2 ^ 64

unfoldable pub link_rank : ℕ → ℕ
link_rank i = drawn i * 2 ^ 64 + i

-- a link from i may lead to j
abbrev pub LinksTo : ℕ → ℕ → ℕ → Type 0
LinksTo n j i = (link_rank j < link_rank i) × (j < n)

-- links go one way, parts are nodes, and all are of their sorts
abbrev pub ShapeOrdered : ℕ → (ℕ → Sort) → Shape → ℕ → Type 0
ShapeOrdered n s Open i = Unit {0}
ShapeOrdered n s (Same j k) i = LinksTo n j i × (s j ≡ k)
ShapeOrdered n s (Const t) i = Unit {0}
ShapeOrdered n s (Pair t a b) i = (a < n) × (b < n) × (s a ≡ sort.Type) × (s b ≡ rest_sort t)

pub record Ordered (cells : List Cell) : Type 0 where
  pub ordered : (i : ℕ) → ShapeOrdered (length cells) (sort_at cells) (cell_at cells i).shape i

-- a tag of a node without parts
abbrev pub IsAlone : Tag → Type 0
IsAlone tag.Arrow = ⊥
IsAlone (tag.Named n) = Unit {0}
IsAlone (tag.Record l) = ⊥
IsAlone (tag.Field l) = ⊥
IsAlone tag.Argument = ⊥
IsAlone tag.NoFields = Unit {0}
IsAlone tag.LastField = Unit {0}
IsAlone tag.LastArgument = Unit {0}

-- a tag of a node with two parts
abbrev pub HasParts : Tag → Type 0
HasParts tag.Arrow = Unit {0}
HasParts (tag.Named n) = Unit {0}
HasParts (tag.Record l) = Unit {0}
HasParts (tag.Field l) = Unit {0}
HasParts tag.Argument = Unit {0}
HasParts tag.NoFields = ⊥
HasParts tag.LastField = ⊥
HasParts tag.LastArgument = ⊥

-- the label of a tag stands in the row of labels
abbrev pub TagIn : ℕ → Tag → Type 0
TagIn m tag.Arrow = Unit {0}
TagIn m (tag.Named n) = Unit {0}
TagIn m (tag.Record l) = l < m
TagIn m (tag.Field l) = l < m
TagIn m tag.Argument = Unit {0}
TagIn m tag.NoFields = Unit {0}
TagIn m tag.LastField = Unit {0}
TagIn m tag.LastArgument = Unit {0}

-- the tag of a shape has as many parts, and its label stands in the row
abbrev pub ShapeLabelled : ℕ → Shape → Type 0
ShapeLabelled m Open = Unit {0}
ShapeLabelled m (Same j s) = Unit {0}
ShapeLabelled m (Const t) = TagIn m t × IsAlone t
ShapeLabelled m (Pair t a b) = TagIn m t × HasParts t

pub record Labelled (m : ℕ) (cells : List Cell) : Type 0 where
  pub labelled : (i : ℕ) → ShapeLabelled m (cell_at cells i).shape

abbrev pub IsRoot : Shape → Type 0
IsRoot Open = Unit {0}
IsRoot (Same j s) = ⊥
IsRoot (Const t) = Unit {0}
IsRoot (Pair t a b) = Unit {0}

-- the cells as they were before the writes of the log, the oldest of which stands first
abbrev pub undone : List (ℕ × Cell) → List Cell → List Cell
undone [] cells = cells
undone (e ∷ log) cells = slice_set (undone log cells) e.0 e.1

-- A walk that numbers each node after its parts, and the ranks that it gives.
use Rattle.std.specs.Prelude.{ℕ, ◌+◌, ◌≡◌, ◌<◌, ◌≤◌, List, [], ◌∷◌, length, slice_index_or, slice_set, sum_by, ◌⊎◌, Bool, true, false}
use Rattle.sml_static.specs.declared.ty.Label.{Label}
use Rattle.ty_unify.specs.declared.cell.Cell.{Cell}
use Rattle.ty_unify.specs.declared.cell.Shape.{Shape}
use Rattle.ty_unify.specs.declared.cell.Shape.TheVariants.{Open, Same, Const, Pair}
use Rattle.ty_unify.specs.declared.walk.Stage.{Stage}
use Rattle.ty_unify.specs.declared.walk.Stage.TheVariants.{New, Busy, Done}
use Rattle.ty_unify.specs.declared.walk.Part.{Part}
use Rattle.ty_unify.specs.declared.walk.Part.TheVariants as part
use Rattle.ty_unify.specs.Trees.{Tree, tree_size}
use Rattle.ty_unify.specs.Cells.{cell_at, open_cell, Shaped, link_rank}

-- each part has a smaller rank
abbrev pub PartsBelow : Shape → (ℕ → ℕ) → ℕ → Type 0
PartsBelow Open rank i = Unit {0}
PartsBelow (Same j s) rank i = rank j < rank i
PartsBelow (Const t) rank i = Unit {0}
PartsBelow (Pair t a b) rank i = (rank a < rank i) × (rank b < rank i)

-- no node leads back to itself: there are ranks by which each node is above its parts
pub record Ranked (cells : List Cell) : Type 0 where
  pub rank : ℕ → ℕ
  pub below : (i : ℕ) → PartsBelow (cell_at cells i).shape rank i

abbrev pub mark_at : List Stage → ℕ → Stage
mark_at marks i = slice_index_or marks i New

-- what is seen of a part with this mark
abbrev pub part_of : Stage → ℕ → Part
part_of New i = part.New i
part_of Busy i = part.Back
part_of (Done r) i = part.Numbered

-- the first, where it is not numbered, and else the second
abbrev pub first_of : Part → Part → Part
first_of (part.New i) q = part.New i
first_of part.Back q = part.Back
first_of part.Numbered q = q

abbrev pub part_in : List Stage → Shape → Part
part_in marks Open = part.Numbered
part_in marks (Same j s) = part_of (mark_at marks j) j
part_in marks (Const t) = part.Numbered
part_in marks (Pair t a b) = first_of (part_of (mark_at marks a) a) (part_of (mark_at marks b) b)

abbrev pub InMarks : ℕ → Shape → Type 0
InMarks n Open = Unit {0}
InMarks n (Same j s) = j < n
InMarks n (Const t) = Unit {0}
InMarks n (Pair t a b) = (a < n) × (b < n)

abbrev pub left_weight : Stage → ℕ
left_weight New = 1
left_weight Busy = 1
left_weight (Done r) = 0

-- how many nodes are not numbered
abbrev pub left_over : List Stage → ℕ
left_over marks = sum_by left_weight marks

abbrev pub new_weight : Stage → ℕ
new_weight New = 1
new_weight Busy = 0
new_weight (Done r) = 0

-- how many are new
abbrev pub new_left : List Stage → ℕ
new_left marks = sum_by new_weight marks

abbrev pub Finished : Stage → List Stage → List Stage → ℕ → ℕ → ℕ → Type 0
Finished New old new before after node = (new ≡ old) × (after ≡ before)
Finished Busy old new before after node = (new ≡ slice_set old node (Done before)) × (after ≡ before + 1)
Finished (Done r) old new before after node = (new ≡ old) × (after ≡ before)

abbrev pub DoneBelow : Stage → ℕ → Type 0
DoneBelow New n = ⊥
DoneBelow Busy n = ⊥
DoneBelow (Done r) n = r < n

abbrev pub PartsDone : Shape → List Stage → ℕ → Type 0
PartsDone Open marks n = Unit {0}
PartsDone (Same j s) marks n = DoneBelow (mark_at marks j) n
PartsDone (Const t) marks n = Unit {0}
PartsDone (Pair t a b) marks n = DoneBelow (mark_at marks a) n × DoneBelow (mark_at marks b) n

-- each numbered node has a greater number than its parts, and a smaller one than the next
pub record Numbered (cells : List Cell) (marks : List Stage) (next : ℕ) : Type 0 where
  pub below : (i r : ℕ) → mark_at marks i ≡ Done r → r < next
  pub parts : (i r : ℕ) → mark_at marks i ≡ Done r → PartsDone (cell_at cells i).shape marks r

-- what a node's part is to it: a smaller tree, or no larger one at a node to which links lead from it
abbrev pub Under : (ℕ → Tree) → ℕ → ℕ → Type 0
Under θ i g = (tree_size (θ i) < tree_size (θ g)) ⊎ ((tree_size (θ i) ≤ tree_size (θ g)) × (link_rank i < link_rank g))

-- it holds of each
abbrev pub Each : (ℕ → Type 0) → List ℕ → Type 0
Each P [] = Unit {0}
Each P (x ∷ xs) = P x × Each P xs

-- each node of a path is under those before it
abbrev pub PathUnder : (ℕ → Tree) → List ℕ → Type 0
PathUnder θ [] = Unit {0}
PathUnder θ (x ∷ xs) = Each (λ y. Under θ y x) xs × PathUnder θ xs

abbrev pub IsIn : ℕ → List ℕ → Type 0
IsIn i [] = ⊥
IsIn i (x ∷ xs) = (i ≡ x) ⊎ IsIn i xs

-- the walk on its way along a path of busy nodes
pub record Walk (cells : List Cell) (first marks : List Stage) (next : ℕ) (path : List ℕ) : Type 0 where
  pub same_length : length marks ≡ length cells
  pub numbered : Numbered cells marks next
  pub room : left_over marks + next ≤ length marks
  pub within : Each (λ i. i < length cells) path
  pub busy : (i : ℕ) → mark_at marks i ≡ Busy → IsIn i path
  pub kept : (i r : ℕ) → mark_at first i ≡ Done r → mark_at marks i ≡ Done r
  pub met : (i : ℕ) → mark_at marks i ≡ New → mark_at first i ≡ New
  pub under : (labels : List Label) (θ : ℕ → Tree) → Shaped labels cells θ → PathUnder θ path

-- it is numbered
abbrev pub IsDone : Stage → Type 0
IsDone m = (r : ℕ) × (m ≡ Done r)

-- true where the node, and all below it, is numbered, or false where no assignment fits the shapes
abbrev pub WalkEnds : Bool → List Cell → List Stage → List Stage → ℕ → ℕ → Type 0
WalkEnds true cells old new next from = Walk cells old new next [] × (from < length cells → IsDone (mark_at new from))
WalkEnds false cells old new next from = (labels : List Label) (θ : ℕ → Tree) → Shaped labels cells θ → ⊥

-- the node of an entry of the log
abbrev pub node_at : List (ℕ × Cell) → ℕ → ℕ
node_at log k = (slice_index_or log k (0, open_cell)).0

-- each node of the log is numbered
pub record Covered (cells : List Cell) (log : List (ℕ × Cell)) : Type 0 where
  pub marks : List Stage
  pub next : ℕ
  pub numbered : Numbered cells marks next
  pub done : (k : ℕ) → k < length log → node_at log k < length cells → IsDone (mark_at marks (node_at log k))

abbrev pub CoverEnds : Bool → List Cell → List (ℕ × Cell) → Type 0
CoverEnds true cells log = Covered cells log
CoverEnds false cells log = (labels : List Label) (θ : ℕ → Tree) → Shaped labels cells θ → ⊥

-- as many marks, and the nodes that are not new were seen
pub record Tracked (count : ℕ) (marks : List Stage) (seen : List ℕ) : Type 0 where
  pub full : length marks ≡ count
  pub met : (i : ℕ) → (mark_at marks i ≡ New → ⊥) → IsIn i seen

-- no more marks than that, and all are new
pub record Rested (count : ℕ) (marks : List Stage) : Type 0 where
  pub within : length marks ≤ count
  pub fresh : (i : ℕ) → mark_at marks i ≡ New

-- One thing done of what is still to be done.
use Rattle.std.specs.Prelude.{ℕ, ◌+◌, ◌≡◌, ◌<◌, ◌≤◌, ◌↔◌, List, [], ◌∷◌, ◌++◌, length, sum_by, Bool, true, false}
use Rattle.sml_static.specs.declared.ty.Label.{Label}
use Rattle.ty_unify.specs.declared.cell.Cell.{Cell}
use Rattle.ty_unify.specs.declared.cell.Shape.{Shape}
use Rattle.ty_unify.specs.declared.cell.Shape.TheVariants.{Open, Same, Const, Pair}
use Rattle.ty_unify.specs.declared.cell.Sort.{Sort}
use Rattle.ty_unify.specs.declared.cell.Asked.{Asked}
use Rattle.ty_unify.specs.declared.cell.Asked.TheVariants.{Never, Always, Both}
use Rattle.ty_unify.specs.declared.join.Task.{Task}
use Rattle.ty_unify.specs.declared.join.Task.TheVariants.{Equal, Bound}
use Rattle.ty_unify.specs.Trees.{Tree, Admits, tree_size}
use Rattle.ty_unify.specs.Cells.{Held, Bounded, Solves, Ordered, Labelled, cell_at, sort_at, head_of, asked_of}

-- what a task says, where A says what a bound asks
abbrev pub Says : (Tree → Type 0) → Task → (ℕ → Tree) → Type 0
Says A (Equal a b) θ = θ a ≡ θ b
Says A (Bound a) θ = A (θ a)

-- what is still to be done
abbrev pub Agrees : (Tree → Type 0) → List Task → (ℕ → Tree) → Type 0
Agrees A [] θ = Unit {0}
Agrees A (t ∷ ts) θ = Says A t θ × Agrees A ts θ

-- nodes of the store, of one sort where they are to be equal
abbrev pub TaskIn : ℕ → (ℕ → Sort) → Task → Type 0
TaskIn n s (Equal a b) = (a < n) × (b < n) × (s a ≡ s b)
TaskIn n s (Bound a) = a < n

abbrev pub TasksIn : ℕ → (ℕ → Sort) → List Task → Type 0
TasksIn n s [] = Unit {0}
TasksIn n s (t ∷ ts) = TaskIn n s t × TasksIn n s ts

-- a bound is handed on to a node
abbrev pub bound_tasks : Bool → ℕ → List Task
bound_tasks false i = []
bound_tasks true i = Bound i ∷ []

-- a link, of a sort
abbrev pub link_to : ℕ → Sort → Cell
link_to low s = record { shape = Same low s; equal = false }

-- it has a head
abbrev pub IsShaped : Shape → Type 0
IsShaped Open = ⊥
IsShaped (Same j s) = ⊥
IsShaped (Const t) = Unit {0}
IsShaped (Pair t a b) = Unit {0}

-- two shapes have the same head and as many parts
abbrev pub HeadsSame : List Label → Shape → Shape → Type 0
HeadsSame labels (Const c) (Const d) = head_of labels c ≡ head_of labels d
HeadsSame labels (Pair c p q) (Pair d r s) = head_of labels c ≡ head_of labels d
HeadsSame labels _ _ = ⊥

-- the equations of their parts
abbrev pub parts_of : Shape → Shape → List Task
parts_of (Pair c p q) (Pair d r s) = Equal p r ∷ (Equal q s ∷ [])
parts_of _ _ = []

abbrev pub HeadsEnd : Bool → List Label → Shape → Shape → List Task → List Task → Type 0
HeadsEnd true labels a b before after = HeadsSame labels a b × (after ≡ before ++ parts_of a b)
HeadsEnd false labels a b before after = HeadsSame labels a b → ⊥

-- the bounds that equality hands on to the parts of a shape
abbrev pub asked_parts : Asked → ℕ → ℕ → List Task
asked_parts Never a b = []
asked_parts Always a b = []
asked_parts Both a b = Bound a ∷ (Bound b ∷ [])

abbrev pub bounds_of : Shape → List Task
bounds_of (Pair t a b) = asked_parts (asked_of t) a b
bounds_of _ = []

-- a shape that never admits equality
abbrev pub IsNever : Asked → Type 0
IsNever Never = Unit {0}
IsNever Always = ⊥
IsNever Both = ⊥

abbrev pub NeverAdmits : Shape → Type 0
NeverAdmits Open = ⊥
NeverAdmits (Same j s) = ⊥
NeverAdmits (Const t) = IsNever (asked_of t)
NeverAdmits (Pair t a b) = IsNever (asked_of t)

abbrev pub AskEnd : Bool → Shape → List Task → List Task → Type 0
AskEnd true s before after = (NeverAdmits s → ⊥) × (after ≡ before ++ bounds_of s)
AskEnd false s before after = NeverAdmits s

-- what joining classes, and giving bounds, uses up
abbrev pub bound_weight : Bool → ℕ
bound_weight false = 2
bound_weight true = 0

abbrev pub shape_weight : Shape → Bool → ℕ
shape_weight Open e = 1 + bound_weight e
shape_weight (Same j s) e = 0
shape_weight (Const t) e = 1 + bound_weight e
shape_weight (Pair t a b) e = 3 + bound_weight e

abbrev pub cell_weight : Cell → ℕ
cell_weight c = shape_weight c.shape c.equal

abbrev pub weight : List Cell → ℕ
weight cells = sum_by cell_weight cells

-- what is asked of trees below a size, up to a size, and of none
abbrev pub Below : ℕ → Tree → Type 0
Below n t = tree_size t < n → Admits t

abbrev pub UpTo : ℕ → Tree → Type 0
UpTo n t = tree_size t ≤ n → Admits t

abbrev pub Nothing : Tree → Type 0
Nothing t = Unit {0}

-- the bounds of nodes with heads were handed on: where smaller trees keep theirs, and what is still to be done, they are kept
pub record Handed (labels : List Label) (cells : List Cell) (todo : List Task) : Type 0 where
  pub handed : (n : ℕ) (θ : ℕ → Tree) → ((i : ℕ) → Held labels (Below n) Nothing (cell_at cells i) i θ) → Agrees (Below n) todo θ
      → (i : ℕ) → Bounded Nothing (UpTo n) (cell_at cells i).shape (cell_at cells i).equal (θ i)

-- one thing was done: the same solutions, less to do
pub record Stepped (labels : List Label) (old new : List Cell) (before after : List Task) (task : Task) : Type 0 where
  pub order : Ordered new
  pub labelled : Labelled (length labels) new
  pub same_length : length new ≡ length old
  pub sorts : (i : ℕ) → sort_at new i ≡ sort_at old i
  pub tasks : TasksIn (length old) (sort_at old) after
  pub exact : (θ : ℕ → Tree) → (Solves labels new θ × Agrees Admits after θ) ↔ ((Solves labels old θ × Agrees Admits before θ) × Says Admits task θ)
  pub handed : Handed labels old (before ++ task ∷ []) → Handed labels new after
  pub smaller : weight new + length after ≤ weight old + length before

-- true with the step, or false where nothing solves the task
abbrev pub Outcome : Bool → List Label → List Cell → Task → Type 0 → Type 0
Outcome true labels cells task P = P
Outcome false labels cells task P = (θ : ℕ → Tree) → Solves labels cells θ → Says Admits task θ → ⊥

-- on the way: what is left to do, with the cells as they are, says what the two equal nodes said of the first cells
pub record Running (labels : List Label) (first cells : List Cell) (work : List Task) (a b : ℕ) : Type 0 where
  pub order : Ordered cells
  pub labelled : Labelled (length labels) cells
  pub same_length : length cells ≡ length first
  pub sorts : (i : ℕ) → sort_at cells i ≡ sort_at first i
  pub tasks : TasksIn (length cells) (sort_at cells) work
  pub exact : (θ : ℕ → Tree) → (Solves labels cells θ × Agrees Admits work θ) ↔ (Solves labels first θ × (θ a ≡ θ b))
  pub handed : Handed labels cells work

-- nothing is left to do
pub record Solved (labels : List Label) (old new : List Cell) (a b : ℕ) : Type 0 where
  pub order : Ordered new
  pub labelled : Labelled (length labels) new
  pub same_length : length new ≡ length old
  pub sorts : (i : ℕ) → sort_at new i ≡ sort_at old i
  pub exact : (θ : ℕ → Tree) → Solves labels new θ ↔ (Solves labels old θ × (θ a ≡ θ b))
  pub handed : Handed labels new []

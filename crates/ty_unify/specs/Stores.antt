-- Stores as callers see them: their nodes, and the assignments of trees to nodes that solve them.
use Rattle.std.specs.Prelude.{ℕ, ◌^◌, ◌≡◌, ◌<◌, ◌≤◌, ◌↔◌, List, [], length, Bool, true, false}
use Rattle.sml_static.specs.declared.ty.Label.{Label}
use Rattle.sml_static.specs.declared.ty.VarKind.{VarKind}
use Rattle.sml_static.specs.declared.ty.VarKind.TheVariants as kind
use Rattle.ty_unify.specs.declared.cell.Cell.{Cell}
use Rattle.ty_unify.specs.declared.cell.Shape.TheVariants.{Open}
use Rattle.ty_unify.specs.declared.cell.Sort.TheVariants as sort
use Rattle.ty_unify.specs.declared.node.UnifyFault.{UnifyFault}
use Rattle.ty_unify.specs.declared.node.UnifyFault.TheVariants as fault
use Rattle.ty_unify.specs.Trees.{Tree, Admits}
use Rattle.ty_unify.specs.Cells.{Solves, Shaped, BoundBy, Ordered, Labelled, cell_at, sort_at}
use Rattle.ty_unify.specs.Steps.{Handed}
use Rattle.ty_unify.specs.Walking.{Ranked}

-- what a store knows: a cell for each node, and the labels of its records
pub record Known : Type 0 where
  pub cells : List Cell
  pub labels : List Label

-- what always holds of a store
pub record Sound (labels : List Label) (cells : List Cell) : Type 0 where
  pub order : Ordered cells
  pub labelled : Labelled (length labels) cells
  pub handed : Handed labels cells []
  pub ranked : Ranked cells
  pub small : length cells ≤ 2 ^ 32

-- a node that stands for a type
abbrev pub HasNode : Known → ℕ → Type 0
HasNode k i = (i < length k.cells) × (sort_at k.cells i ≡ sort.Type)

-- the assignment gives each node a tree as the store says
abbrev pub IsSolution : Known → (ℕ → Tree) → Type 0
IsSolution k θ = Solves k.labels k.cells θ

-- a variable of the store: nothing but its kind is known of it
abbrev pub IsOpen : Known → ℕ → Type 0
IsOpen k i = (i < length k.cells) × ((cell_at k.cells i).shape ≡ Open)

-- the choice of trees respects the kinds of the store's variables
abbrev pub Respects : Known → (ℕ → Tree) → Type 0
Respects k v = (i : ℕ) → IsOpen k i → BoundBy Admits (cell_at k.cells i).equal (v i)

-- each choice of trees for the variables that respects their kinds is part of a solution
abbrev pub Solvable : Known → Type 0
Solvable k = (v : ℕ → Tree) → Respects k v → (θ : ℕ → Tree) × IsSolution k θ × ((i : ℕ) → IsOpen k i → θ i ≡ v i)

-- the two nodes are equal and nothing else was said: the new solutions are the old ones in which the two are equal
pub record Unified (old new : Known) (a b : ℕ) : Type 0 where
  pub nodes : (i : ℕ) → HasNode old i → HasNode new i
  pub exact : (θ : ℕ → Tree) → IsSolution new θ ↔ (IsSolution old θ × (θ a ≡ θ b))
  pub solvable : Solvable new

-- no solution has the two equal
abbrev pub Clashes : Known → ℕ → ℕ → Type 0
Clashes k a b = (θ : ℕ → Tree) → IsSolution k θ → θ a ≡ θ b → ⊥

-- two assignments agree below n
pub record Agree (n : ℕ) (θ θ' : ℕ → Tree) : Type 0 where
  pub same : (i : ℕ) → i < n → θ' i ≡ θ i

-- a node was added of which P is said: each solution solves the old store and has P, and each one of the old store goes on
-- to one that gives the node any tree of which P holds
pub record Grown (old new : Known) (node : ℕ) (P : (ℕ → Tree) → Tree → Type 0) : Type 0 where
  pub node_in : HasNode new node
  pub longer : length old.cells ≤ length new.cells
  pub nodes : (i : ℕ) → HasNode old i → HasNode new i
  pub sound : (θ : ℕ → Tree) → IsSolution new θ → IsSolution old θ × P θ (θ node)
  pub complete : (θ : ℕ → Tree) (t : Tree) → IsSolution old θ → P θ t → (θ' : ℕ → Tree) × Agree (length old.cells) θ θ' × IsSolution new θ' × (θ' node ≡ t)
  pub solvable : Solvable new

-- a tree of which a variable of the kind may stand
abbrev pub KindHolds : VarKind → Tree → Type 0
KindHolds kind.Plain t = Unit {0}
KindHolds kind.Equal t = Admits t

-- a node that is, or leads to, a variable among the cells
abbrev pub LeadsToVariable : List Cell → ℕ → Type 0
LeadsToVariable cells node = (r : ℕ) × ((cell_at cells r).shape ≡ Open) × ((labels : List Label) (θ : ℕ → Tree) → Shaped labels cells θ → θ node ≡ θ r)

-- the two were joined, as far as the cells
pub record JoinedCells (labels : List Label) (old new : List Cell) (a b : ℕ) : Type 0 where
  pub sound : Sound labels new
  pub same_length : length new ≡ length old
  pub sorts : (i : ℕ) → sort_at new i ≡ sort_at old i
  pub exact : (θ : ℕ → Tree) → Solves labels new θ ↔ (Solves labels old θ × (θ a ≡ θ b))

abbrev pub TriedEnd : Bool → List Label → List Cell → List Cell → ℕ → ℕ → Type 0
TriedEnd true labels old new a b = JoinedCells labels old new a b
TriedEnd false labels old new a b = (θ : ℕ → Tree) → Solves labels old θ → θ a ≡ θ b → ⊥

-- what a fault says of the cells
abbrev pub FaultMeans : UnifyFault → List Label → List Cell → ℕ → ℕ → Type 0
FaultMeans fault.Clash labels old a b = (θ : ℕ → Tree) → Solves labels old θ → θ a ≡ θ b → ⊥
FaultMeans fault.NoMemory labels old a b = Unit {0}

-- the cell of a new variable
abbrev pub variable_cell : VarKind → Cell
variable_cell kind.Plain = record { shape = Open; equal = false }
variable_cell kind.Equal = record { shape = Open; equal = true }

-- the kind of a variable of the store
abbrev pub kind_of : Bool → VarKind
kind_of false = kind.Plain
kind_of true = kind.Equal

-- the node has this kind, where it is the same as a variable in each solution
abbrev pub KindIs : VarKind → Known → ℕ → Type 0
KindIs kd k node = (r : ℕ) → IsOpen k r → ((θ : ℕ → Tree) → IsSolution k θ → θ node ≡ θ r) → kd ≡ kind_of (cell_at k.cells r).equal

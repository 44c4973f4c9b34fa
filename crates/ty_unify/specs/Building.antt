-- The tree of a type, where each free variable is a node, and stores that only grew.
use Rattle.std.specs.Prelude.{ℕ, ◌==◌, ◌≡◌, ◌<◌, ◌≤◌, ◌&&◌, ◌||◌, List, [], ◌∷◌, length, Bool, true, false}
use Rattle.std.specs.List.{list_any, list_all, slice_index_or}
use Rattle.tl_text.specs.Pairs.{seconds}
use Rattle.sml_static.specs.declared.ty.Label.{Label}
use Rattle.sml_static.specs.declared.ty.Label.TheVariants as lab
use Rattle.sml_static.specs.declared.ty.TyName.{TyName}
use Rattle.sml_static.specs.declared.ty.Ty.{Ty, fold-Ty}
use Rattle.sml_static.specs.declared.ty.Ty.TheOpen.{Ty-F}
use Rattle.ty_unify.specs.declared.cell.Cell.{Cell}
use Rattle.ty_unify.specs.declared.cell.Sort.{Sort}
use Rattle.ty_unify.specs.declared.cell.Sort.TheVariants as sort
use Rattle.ty_unify.specs.Trees.{Tree, Rigid, Atom, Fork, Arrow, Named, Record, Field, Argument, NoFields, LastField, LastArgument}
use Rattle.ty_unify.specs.Cells.{Solves, sort_at}
use Rattle.ty_unify.specs.Stores.{Known, Agree}

-- a row of further fields
abbrev pub more_fields : List (Label × Tree) → Tree
more_fields [] = Atom LastField
more_fields (f ∷ fs) = Fork (Field f.0) f.1 (more_fields fs)

-- a record of these fields
abbrev pub fields_tree : List (Label × Tree) → Tree
fields_tree [] = Atom NoFields
fields_tree (f ∷ fs) = Fork (Record f.0) f.1 (more_fields fs)

-- a row of further arguments
abbrev pub more_args : List Tree → Tree
more_args [] = Atom LastArgument
more_args (t ∷ ts) = Fork Argument t (more_args ts)

-- a type name at these arguments
abbrev pub named_tree : TyName → List Tree → Tree
named_tree name [] = Atom (Named name)
named_tree name (t ∷ ts) = Fork (Named name) t (more_args ts)

-- one level of `under`
abbrev pub under_step : (ℕ → Tree) → Ty-F Tree → Tree
under_step θ (Ty-F.Free n) = θ n
under_step θ (Ty-F.Bound i) = Rigid false i
under_step θ (Ty-F.Fields fields) = fields_tree fields
under_step θ (Ty-F.Arrow a b) = Fork Arrow a b
under_step θ (Ty-F.Con name args) = named_tree name args

-- the tree of a type, each free variable being the tree that the assignment gives its node
abbrev pub under : (ℕ → Tree) → Ty → Tree
under θ = fold-Ty Tree (under_step θ)

-- whether the node is a free variable of the type
abbrev pub has_free_step : ℕ → Ty-F Bool → Bool
has_free_step n (Ty-F.Free m) = m == n
has_free_step n (Ty-F.Bound i) = false
has_free_step n (Ty-F.Fields fields) = list_any (λ f. f) (seconds fields)
has_free_step n (Ty-F.Arrow a b) = a || b
has_free_step n (Ty-F.Con name args) = list_any (λ a. a) args

abbrev pub has_free : ℕ → Ty → Bool
has_free n = fold-Ty Bool (has_free_step n)

-- whether the type has no bound variable
abbrev pub closed_step : Ty-F Bool → Bool
closed_step (Ty-F.Free m) = true
closed_step (Ty-F.Bound i) = false
closed_step (Ty-F.Fields fields) = list_all (λ f. f) (seconds fields)
closed_step (Ty-F.Arrow a b) = a && b
closed_step (Ty-F.Con name args) = list_all (λ a. a) args

abbrev pub is_closed : Ty → Bool
is_closed = fold-Ty Bool closed_step

-- a node of types
abbrev pub NodeIn : List Cell → ℕ → Type 0
NodeIn cells i = (i < length cells) × (sort_at cells i ≡ sort.Type)

-- the store only grew: each solution is one of before, and each of before goes on to one
pub record Extends (ol nl : List Label) (oc nc : List Cell) : Type 0 where
  pub longer : length oc ≤ length nc
  pub sorts : (i : ℕ) → i < length oc → sort_at nc i ≡ sort_at oc i
  pub back : (θ : ℕ → Tree) → Solves nl nc θ → Solves ol oc θ
  pub forth : (θ : ℕ → Tree) → Solves ol oc θ → (θ' : ℕ → Tree) × Agree (length oc) θ θ' × Solves nl nc θ'

-- in each solution the node has this tree
pub record Built (nl : List Label) (nc : List Cell) (node : ℕ) (s : Sort) (f : (ℕ → Tree) → Tree) : Type 0 where
  pub node_in : node < length nc
  pub node_sort : sort_at nc node ≡ s
  pub value : (θ : ℕ → Tree) → Solves nl nc θ → θ node ≡ f θ

-- a store grew to one in which the node has this tree
pub record Made (old new : Known) (node : ℕ) (s : Sort) (f : (ℕ → Tree) → Tree) : Type 0 where
  pub grown : Extends old.labels new.labels old.cells new.cells
  pub built : Built new.labels new.cells node s f

-- a store with a label more
pub record LabelMade (old new : Known) (at : ℕ) (l : Label) : Type 0 where
  pub grown : Extends old.labels new.labels old.cells new.cells
  pub within : at < length new.labels
  pub named : slice_index_or new.labels at (lab.Num 0) ≡ l

-- a store with the last parts of a row
pub record RowMade (old new : Known) (node : ℕ) (s : Sort) (left count : ℕ) (f : (ℕ → Tree) → Tree) : Type 0 where
  pub made : Made old new node s f
  pub low : 1 ≤ left
  pub high : left ≤ count

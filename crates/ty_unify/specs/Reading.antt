-- The type that a node is, read off the cells.
use Rattle.std.specs.Prelude.{ℕ, ◌≡◌, ◌<◌, List, [], ◌∷◌, length, map, Option, Some, None, IsTrue}
use Rattle.std.specs.List.{list_any, list_all, slice_index_or}
use Rattle.tl_text.specs.Pairs.{map_second, seconds}
use Rattle.sml_static.specs.declared.ty.Label.{Label}
use Rattle.sml_static.specs.declared.ty.Label.TheVariants as lab
use Rattle.sml_static.specs.declared.ty.Ty.{Ty}
use Rattle.sml_static.specs.declared.ty.Ty.TheVariants as ty
use Rattle.ty_unify.specs.declared.cell.Cell.{Cell}
use Rattle.ty_unify.specs.declared.cell.Shape.{Shape}
use Rattle.ty_unify.specs.declared.cell.Shape.TheVariants.{Open, Same, Const, Pair}
use Rattle.ty_unify.specs.declared.cell.Tag.TheVariants as tag
use Rattle.ty_unify.specs.Trees.{Tree}
use Rattle.ty_unify.specs.Cells.{Shaped, cell_at}
use Rattle.ty_unify.specs.Stores.{Known, IsOpen, IsSolution}
use Rattle.ty_unify.specs.Formed.{FormedAs}
use Rattle.ty_unify.specs.Building.{under, has_free, is_closed, more_args, more_fields}

-- the node reads back as the type: in each solution its tree is the type's, where each free variable, which is a variable of the
-- store, is the node of that number; no bound variable stands in it; and it is well-formed as the node's tree is
pub record ReadBack (k : Known) (node : ℕ) (t : Ty) : Type 0 where
  pub tree : (θ : ℕ → Tree) → IsSolution k θ → under θ t ≡ θ node
  pub variables : (n : ℕ) → IsTrue (has_free n t) → IsOpen k n
  pub closed : IsTrue (is_closed t)
  pub formed : FormedAs k (IsOpen k) node t

-- a variable among the cells
abbrev pub IsVariable : List Cell → ℕ → Type 0
IsVariable cells i = (i < length cells) × ((cell_at cells i).shape ≡ Open)

-- the type has this tree, wherever the nodes have the trees that their shapes say
pub record Reads (labels : List Label) (cells : List Cell) (f : (ℕ → Tree) → Tree) (t : Ty) : Type 0 where
  pub tree : (θ : ℕ → Tree) → Shaped labels cells θ → under θ t ≡ f θ
  pub variables : (n : ℕ) → IsTrue (has_free n t) → IsVariable cells n
  pub closed : IsTrue (is_closed t)

-- the same of further arguments, and of further fields
pub record ReadsArgs (labels : List Label) (cells : List Cell) (f : (ℕ → Tree) → Tree) (ts : List Ty) : Type 0 where
  pub tree : (θ : ℕ → Tree) → Shaped labels cells θ → more_args (map (under θ) ts) ≡ f θ
  pub variables : (n : ℕ) → IsTrue (list_any (λ a. a) (map (has_free n) ts)) → IsVariable cells n
  pub closed : IsTrue (list_all (λ a. a) (map is_closed ts))

pub record ReadsFields (labels : List Label) (cells : List Cell) (f : (ℕ → Tree) → Tree) (fs : List (Label × Ty)) : Type 0 where
  pub tree : (θ : ℕ → Tree) → Shaped labels cells θ → more_fields (map_second (under θ) fs) ≡ f θ
  pub variables : (n : ℕ) → IsTrue (list_any (λ b. b) (seconds (map_second (has_free n) fs))) → IsVariable cells n
  pub closed : IsTrue (list_all (λ b. b) (seconds (map_second is_closed fs)))

-- the label of that number in the row of labels
abbrev pub label_at : List Label → ℕ → Label
label_at labels l = slice_index_or labels l (lab.Num 0)

-- the parts of an arrow
abbrev pub arrow_in : Shape → Option (ℕ × ℕ)
arrow_in Open = None
arrow_in (Same j s) = None
arrow_in (Const t) = None
arrow_in (Pair tag.Arrow a b) = Some (a, b)
arrow_in (Pair _ a b) = None

-- an argument of a row, and the rest
abbrev pub argument_in : Shape → Option (ℕ × ℕ)
argument_in Open = None
argument_in (Same j s) = None
argument_in (Const t) = None
argument_in (Pair tag.Argument a b) = Some (a, b)
argument_in (Pair _ a b) = None

-- a field of a row, its label first, and the rest
abbrev pub field_in : Shape → Option (ℕ × ℕ × ℕ)
field_in Open = None
field_in (Same j s) = None
field_in (Const t) = None
field_in (Pair (tag.Field l) a b) = Some (l, a, b)
field_in (Pair _ a b) = None

-- `t1 -> .. -> tn -> t`
abbrev pub arrows_to : List Ty → Ty → Ty
arrows_to [] t = t
arrows_to (f ∷ fs) t = ty.Arrow f (arrows_to fs t)

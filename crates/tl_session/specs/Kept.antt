-- The interface of sources in the environment of their text.
use Rattle.std.specs.Prelude.{◌≡◌, ℕ, suc, List, ◌∷◌, Some}
use Rattle.built_items.specs.declared.item.SourceItem.{SourceItem}
use Rattle.tl_session.specs.Static as sml
use Rattle.tl_session.specs.OcTypes as oc
use Rattle.tl_session.specs.Written.{base_of, unit_name}

-- a source: its name and its bytes
pub record Source : Type 0 where
  pub name : List ℕ
  pub bytes : List ℕ

-- the name of the unit of a source with this number
abbrev pub unit_of : ℕ → Source → List ℕ
unit_of k source = unit_name k (base_of source.name)

-- what the variables are bound to after sources with these programs, the first of which has the number k
abbrev pub basis_from : ℕ → List Source → List (List SourceItem) → sml.Basis → sml.Basis
basis_from k (source ∷ sources) (program ∷ programs) basis =
    basis_from (suc k) sources programs (sml.with_items (unit_of k source) program basis)
basis_from k _ _ basis = basis

abbrev pub basis_after : List Source → List (List SourceItem) → sml.Basis
basis_after sources programs = basis_from 1 sources programs sml.initial

-- a record of no label is unit, one of one label is its component, one of more is a tuple
abbrev pub record_type : oc.Tys → oc.Ty
record_type oc.NoTys = oc.unit
record_type (oc.MoreTys t oc.NoTys) = t
record_type (oc.MoreTys t (oc.MoreTys u us)) = oc.Tuple (oc.MoreTys t (oc.MoreTys u us))

abbrev mutual
  -- the image of a type
  pub image : sml.Ty → oc.Ty
  image sml.Int = oc.int
  image sml.Word = oc.int
  image sml.Char = oc.char
  image sml.String = oc.string
  image (sml.Arrow a b) = oc.Arrow (image a) (image b)
  image (sml.Labelled ts) = record_type (images ts)
  image (sml.ListOf t) = oc.list (image t)

  pub images : sml.Tys → oc.Tys
  images sml.NoTys = oc.NoTys
  images (sml.MoreTys t ts) = oc.MoreTys (image t) (images ts)

-- the home of each variable that is bound last has the image of its type
abbrev pub Kept : sml.Basis → oc.Env → Type 0
Kept basis env = (x : List ℕ) (e : sml.Entry) → basis x ≡ Some e → oc.val_at e.home env ≡ Some (image e.type)

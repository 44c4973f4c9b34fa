-- Which dictionaries are equality functions of which types.
use Rattle.std.specs.Prelude.{decimal, ◌≡◌, ◌⊎◌, ◌<◌, ℕ, IsTrue, List, [], ◌∷◌, Option, Some, None, replicate, codes}
use Rattle.tl_text.specs.Pairs.{seconds}
use Rattle.sml_static.specs.declared.ty.Label.{Label}
use Rattle.sml_static.specs.declared.ty.Scheme.{Scheme}
use Rattle.sml_static.specs.declared.ty.Ty.{Ty}
use Rattle.sml_static.specs.declared.ty.Ty.TheVariants as ty
use Rattle.sml_static.specs.declared.ty.TyName.{TyName}
use Rattle.sml_static.specs.declared.ty.VarKind.{VarKind}
use Rattle.sml_static.specs.declared.ty.VarKind.TheVariants as kind
use Rattle.sml_static.specs.Equality.{ref_number}
use Rattle.sml_static.specs.WellFormed.{Numbering}
use Rattle.mid_ast.specs.Tree.{Name, Dict, Base, At, Given, Cells, Parts, Dicts, NoDicts, MoreDicts}
use Rattle.mid_typing.specs.Types.{arrow, bool, equal_place, need_dicts, variables}
use Rattle.mid_typing.specs.Env.{Env, Entry, General, Within, Variable, binder_at, vid_at}

-- how far the passes have come
pub data Stage : Type 0 where
  -- what elaboration gives: = and <> have no dictionaries, and paths are read from where they stand
  Elaborated : Stage
  -- the same where = and <> have theirs
  Explicit : Stage
  -- paths are the written ones
  Placed : Stage

-- what does not change inside a unit: arity and equality of each type name, and the stage
pub record Setting : Type 0 where
  pub names : Numbering
  pub stage : Stage

-- the path of the equality function of a type name before the homes are placed
abbrev pub equality_path : TyName → Name
equality_path name = codes "eq" ∷ decimal name.id ∷ []

-- t -> t -> bool, where t is the type name at the variables from n on
abbrev pub equality_type : ℕ → TyName → Ty
equality_type n name = let t : Ty = ty.Con name (variables n name.arity) in arrow t (arrow t bool)

-- the scheme of an equality function: it takes a dictionary for each argument
abbrev pub equality_scheme : TyName → Scheme
equality_scheme name = record { vars = replicate name.arity kind.Equal; body = equality_type 0 name }

-- a binder whose type is that of an equality function of the type name; inside its own group it is one too
abbrev pub IsEqualityBinder : Option Entry → ℕ → TyName → Type 0
IsEqualityBinder None n name = ⊥
IsEqualityBinder (Some (General m vars t)) n name = (m ≡ n) × (vars ≡ replicate name.arity kind.Equal) × (t ≡ equality_type n name)
IsEqualityBinder (Some (Within t us)) n name = t ≡ equality_type n name

-- The path is that of an equality function of the type name. A written one is that of a variable, or, in a `let` and
-- inside the function's own group, of a binder.
abbrev pub IsEqualityAt : Stage → Env → Name → TyName → Type 0
IsEqualityAt Elaborated g q name = q ≡ equality_path name
IsEqualityAt Explicit g q name = q ≡ equality_path name
IsEqualityAt Placed g q name = (vid_at q g ≡ Some (Variable (equality_scheme name))) ⊎ ((n : ℕ) × IsEqualityBinder (binder_at q g) n name)

-- In g, where type variables of these kinds are in scope, the dictionary tests values of the type for equality.
abbrev mutual
  pub DictFits : Stage → Env → List VarKind → Dict → Ty → Type 0
  DictFits s g ks (Base n) t = (name : TyName) × (t ≡ ty.Con name []) × (name.id ≡ n) × (n < 4)
  DictFits s g ks (At q ds) t =
      (name : TyName) × (args : List Ty) × (t ≡ ty.Con name args) × IsTrue name.equality × IsEqualityAt s g q name × DictsFit s g ks ds args
  DictFits s g ks (Given i) t = (j : ℕ) × (equal_place ks i ≡ Some j) × (t ≡ ty.Bound j)
  DictFits s g ks Cells t = (name : TyName) × (a : Ty) × (t ≡ ty.Con name (a ∷ [])) × (name.id ≡ ref_number)
  DictFits s g ks (Parts ds) t = (fields : List (Label × Ty)) × (t ≡ ty.Fields fields) × DictsFit s g ks ds (seconds fields)

  -- one for each type, in order
  pub DictsFit : Stage → Env → List VarKind → Dicts → List Ty → Type 0
  DictsFit s g ks NoDicts [] = Unit {0}
  DictsFit s g ks NoDicts (t ∷ ts) = ⊥
  DictsFit s g ks (MoreDicts d ds) [] = ⊥
  DictsFit s g ks (MoreDicts d ds) (t ∷ ts) = DictFits s g ks d t × DictsFit s g ks ds ts

-- those of a primitive whose equality variables stand for these types: none before equality is made explicit, and after
-- it those that are needed
abbrev pub PrimDicts : Stage → Env → List VarKind → Dicts → List Ty → Type 0
PrimDicts Elaborated g ks ds ts = ds ≡ NoDicts
PrimDicts Explicit g ks ds ts = DictsFit Explicit g ks ds (need_dicts ts)
PrimDicts Placed g ks ds ts = DictsFit Placed g ks ds (need_dicts ts)

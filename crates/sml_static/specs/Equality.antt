-- Which types admit equality, and the equality set of datatypes.
use Rattle.std.specs.Prelude.{◌==◌, ◌&&◌, ◌||◌, ℕ, Bool, true, false, IsTrue, List, All, Option, Some, None}
use Rattle.std.specs.List.{list_all, list_any}
use Rattle.tl_text.specs.Pairs.{seconds}
use Rattle.sml_static.specs.declared.ty.Ty.{Ty, fold-Ty}
use Rattle.sml_static.specs.declared.ty.Ty.TheOpen.{Ty-F}
use Rattle.sml_static.specs.declared.ty.TyName.{TyName}
use Rattle.sml_static.specs.declared.ty.VarKind.{VarKind}
use Rattle.sml_static.specs.declared.ty.VarKind.TheVariants as kind
use Rattle.sml_static.specs.declared.mid.MidData.{MidData}

-- the number of the type name `ref`
abbrev pub ref_number : ℕ
ref_number = 7

-- whether a variable of this kind admits equality
abbrev pub is_equal : VarKind → Bool
is_equal kind.Plain = false
is_equal kind.Equal = true

-- whether the type name is among these, by its number
abbrev pub is_among : List TyName → TyName → Bool
is_among names name = list_any (λ n. n.id == name.id) names

-- one level of `admits`, where `free` and `bound` give the kinds of variables
abbrev pub admits_step : (ℕ → VarKind) → (ℕ → VarKind) → List TyName → Ty-F Bool → Bool
admits_step free bound supposed (Ty-F.Free n) = is_equal (free n)
admits_step free bound supposed (Ty-F.Bound i) = is_equal (bound i)
admits_step free bound supposed (Ty-F.Fields fields) = list_all (λ f. f) (seconds fields)
admits_step free bound supposed (Ty-F.Arrow a b) = false
admits_step free bound supposed (Ty-F.Con name args) =
    (name.id == ref_number) || ((name.equality || is_among supposed name) && list_all (λ a. a) args)

-- whether a type admits equality, the type names supposed to doing so too -- [Definition, section 4.4]
abbrev pub admits : (ℕ → VarKind) → (ℕ → VarKind) → List TyName → Ty → Bool
admits free bound supposed = fold-Ty Bool (admits_step free bound supposed)

-- whether the argument of a constructor, where it has one, admits equality at any equality types of its parameters
abbrev pub argument_admits : List TyName → Option Ty → Bool
argument_admits supposed None = true
argument_admits supposed (Some t) = admits (λ n. kind.Plain) (λ i. kind.Equal) supposed t

-- whether all constructors of a datatype have such arguments
abbrev pub data_admits : List TyName → MidData → Bool
data_admits supposed d = list_all (λ c. argument_admits supposed c.1) d.cons

-- the names of the set are datatypes of the row, and the constructors of each admit equality with the set supposed
pub record IsConsistent (binds : List MidData) (set : List TyName) : Type 0 where
  pub bound : (n : ℕ) → IsTrue (list_any (λ s. s.id == n) set) → IsTrue (list_any (λ d. d.name.id == n) binds)
  pub admitted : All (λ d. IsTrue (is_among set d.name) → IsTrue (data_admits set d)) binds

-- the greatest such set: each other one is part of it -- [Definition, section 4.9]
pub record IsEqualitySet (binds : List MidData) (set : List TyName) : Type 0 where
  pub consistent : IsConsistent binds set
  pub greatest : (other : List TyName) → IsConsistent binds other → (n : ℕ) → IsTrue (list_any (λ s. s.id == n) other) → IsTrue (list_any (λ s. s.id == n) set)

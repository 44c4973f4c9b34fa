-- Types under replacement: a type function applied, a substitution, a realisation.
use Rattle.std.specs.Prelude.{ℕ, ◌==◌, cond, List, [], ◌∷◌, Option, Some, None}
use Rattle.std.specs.List.{slice_index_or}
use Rattle.sml_static.specs.declared.ty.Ty.{Ty, fold-Ty}
use Rattle.sml_static.specs.declared.ty.Ty.TheOpen.{Ty-F}
use Rattle.sml_static.specs.declared.ty.Ty.TheVariants as ty
use Rattle.sml_static.specs.declared.ty.TyName.{TyName}
use Rattle.sml_static.specs.declared.ty.TyFun.{TyFun}

-- one level of `applied`
abbrev pub applied_step : List Ty → Ty-F Ty → Ty
applied_step args (Ty-F.Free n) = ty.Free n
applied_step args (Ty-F.Bound i) = slice_index_or args i (ty.Bound i)
applied_step args (Ty-F.Fields fields) = ty.Fields fields
applied_step args (Ty-F.Arrow a b) = ty.Arrow a b
applied_step args (Ty-F.Con name ts) = ty.Con name ts

-- the type with each bound variable replaced by the argument at its place
abbrev pub applied : List Ty → Ty → Ty
applied args = fold-Ty Ty (applied_step args)

-- one level of `substituted`
abbrev pub substituted_step : (ℕ → Ty) → Ty-F Ty → Ty
substituted_step s (Ty-F.Free n) = s n
substituted_step s (Ty-F.Bound i) = ty.Bound i
substituted_step s (Ty-F.Fields fields) = ty.Fields fields
substituted_step s (Ty-F.Arrow a b) = ty.Arrow a b
substituted_step s (Ty-F.Con name ts) = ty.Con name ts

-- the type with each free variable replaced by what the substitution has for it
abbrev pub substituted : (ℕ → Ty) → Ty → Ty
substituted s = fold-Ty Ty (substituted_step s)

-- the type function that a realisation has for a type name: that of the first pair with its number
abbrev pub function_of : List (TyName × TyFun) → TyName → Option TyFun
function_of [] name = None
function_of (p ∷ ps) name = cond (p.0.id == name.id) (Some p.1) (function_of ps name)

-- a type name applied to types, after its type function is put in, where there is one
abbrev pub named : Option TyFun → TyName → List Ty → Ty
named None name args = ty.Con name args
named (Some f) name args = applied args f.body

-- one level of `realised`
abbrev pub realised_step : List (TyName × TyFun) → Ty-F Ty → Ty
realised_step phi (Ty-F.Free n) = ty.Free n
realised_step phi (Ty-F.Bound i) = ty.Bound i
realised_step phi (Ty-F.Fields fields) = ty.Fields fields
realised_step phi (Ty-F.Arrow a b) = ty.Arrow a b
realised_step phi (Ty-F.Con name args) = named (function_of phi name) name args

-- the type with the realisation's type functions in the place of their type names -- [Definition, section 5.2]
abbrev pub realised : List (TyName × TyFun) → Ty → Ty
realised phi = fold-Ty Ty (realised_step phi)

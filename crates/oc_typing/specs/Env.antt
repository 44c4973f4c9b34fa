-- Environments of a text: what is bound, the last binding first.
use Rattle.std.specs.Prelude.{ℕ, List, [], ◌∷◌, Option, Some, None, if◌then◌else◌}
use Rattle.std.specs.Str.{bytes_eq}
use Rattle.oc_ast.specs.Plain.{Bytes, Long}
use Rattle.oc_typing.specs.Ty.{Ty}

-- a constructor or an exception: its argument, if it has one, and what it makes, under one scheme
pub record ConTy : Type 0 where
  pub arg : Option Ty
  pub made : Ty

-- a type: how many parameters, what it is, over its parameters, and its constructors in order; an alias has none
pub record TyEntry : Type 0 where
  pub arity : ℕ
  pub body : Ty
  pub cons : List (Bytes × Option Ty)

pub data Env : Type 0 where
  Empty : Env
  AddVal : Bytes → Ty → Env → Env
  AddCon : Bytes → ConTy → Env → Env
  AddType : Bytes → TyEntry → Env → Env
  AddMod : Bytes → Env → Env → Env

-- the binding of a name that counts, in each class of names
abbrev pub val_of : Bytes → Env → Option Ty
val_of x Empty = None
val_of x (AddVal y u e) = if bytes_eq x y then Some u else val_of x e
val_of x (AddCon y c e) = val_of x e
val_of x (AddType y d e) = val_of x e
val_of x (AddMod y b e) = val_of x e

abbrev pub con_of : Bytes → Env → Option ConTy
con_of x Empty = None
con_of x (AddVal y u e) = con_of x e
con_of x (AddCon y c e) = if bytes_eq x y then Some c else con_of x e
con_of x (AddType y d e) = con_of x e
con_of x (AddMod y b e) = con_of x e

abbrev pub type_of : Bytes → Env → Option TyEntry
type_of x Empty = None
type_of x (AddVal y u e) = type_of x e
type_of x (AddCon y c e) = type_of x e
type_of x (AddType y d e) = if bytes_eq x y then Some d else type_of x e
type_of x (AddMod y b e) = type_of x e

abbrev pub mod_of : Bytes → Env → Option Env
mod_of x Empty = None
mod_of x (AddVal y u e) = mod_of x e
mod_of x (AddCon y c e) = mod_of x e
mod_of x (AddType y d e) = mod_of x e
mod_of x (AddMod y b e) = if bytes_eq x y then Some b else mod_of x e

abbrev pub in_module : {A : Type 0} → (Env → Option A) → Option Env → Option A
in_module look None = None
in_module look (Some b) = look b

-- what a path leads to: through its modules, to its last name
abbrev pub at : {A : Type 0} → (Bytes → Env → Option A) → Long → Env → Option A
at look [] e = None
at look (x ∷ []) e = look x e
at look (m ∷ x ∷ path) e = in_module (λ b. at look (x ∷ path) b) (mod_of m e)

abbrev pub val_at : Long → Env → Option Ty
val_at path e = at val_of path e

abbrev pub con_at : Long → Env → Option ConTy
con_at path e = at con_of path e

abbrev pub type_at : Long → Env → Option TyEntry
type_at path e = at type_of path e

abbrev pub mod_at : Long → Env → Option Env
mod_at path e = at mod_of path e

-- d put over e
abbrev pub over : Env → Env → Env
over Empty e = e
over (AddVal y u d) e = AddVal y u (over d e)
over (AddCon y c d) e = AddCon y c (over d e)
over (AddType y t d) e = AddType y t (over d e)
over (AddMod y b d) e = AddMod y b (over d e)

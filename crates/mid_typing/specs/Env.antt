-- Environments of middle trees: what is bound, the last binding first.
use Rattle.std.specs.Prelude.{ℕ, nat_eq, nat_le, ◌&&◌, Bool, List, [], ◌∷◌, codes, Option, Some, None, if◌then◌else◌}
use Rattle.std.specs.Str.{bytes_eq}
use Rattle.std.specs.Cmp.Lexicographic.{pointwise}
use Rattle.sml_static.specs.declared.ty.Scheme.{Scheme}
use Rattle.sml_static.specs.declared.ty.Ty.{Ty}
use Rattle.sml_static.specs.declared.ty.TyFun.{TyFun}
use Rattle.sml_static.specs.declared.ty.VarKind.{VarKind}
use Rattle.mid_ast.specs.Tree.{Name, Part}

-- what a binder has
pub data Entry : Type 0 where
  -- a type, with how many of its first variables are those of the bindings round it, and the kinds of its own, which
  -- come after them
  General : ℕ → List VarKind → Ty → Entry
  -- inside its own group of functions: one type, and the types for which each use is given dictionaries
  Within : Ty → List Ty → Entry

-- what a path of the value environment has -- [Definition, section 4.2]
pub data Vid : Type 0 where
  Variable : Scheme → Vid
  -- a constructor, with how many its datatype has
  Constructor : ℕ → Scheme → Vid
  Exception : Scheme → Vid

-- a type constructor: its type function, and the constructors of a datatype with the types of their arguments
pub record TyEntry : Type 0 where
  pub function : TyFun
  pub cons : List (Part × Option Ty)

pub data Env : Type 0 where
  Empty : Env
  -- a binder, by its number, with the identifier that it binds
  AddLocal : ℕ → Part → Entry → Env → Env
  AddVid : Name → Vid → Env → Env
  AddType : Name → TyEntry → Env → Env
  AddMod : Part → Env → Env → Env

abbrev pub is_same : Name → Name → Bool
is_same p q = pointwise bytes_eq p q

-- what is left of a path that leads into a module of this name
abbrev pub into : Part → Name → Option Name
into m [] = None
into m (x ∷ []) = None
into m (x ∷ y ∷ q) = if bytes_eq x m then Some (y ∷ q) else None

-- what is found inside, where the path leads there, and else outside
abbrev pub inside_or : {A : Type 0} → Option Name → (Name → Option A) → Option A → Option A
inside_or None look found = found
inside_or (Some r) look found = look r

-- the last binding of a path -- [Definition, section 4.3]
abbrev pub vid_at : Name → Env → Option Vid
vid_at q Empty = None
vid_at q (AddLocal x n v e) = vid_at q e
vid_at q (AddVid p v e) = if is_same q p then Some v else vid_at q e
vid_at q (AddType p t e) = vid_at q e
vid_at q (AddMod m b e) = inside_or (into m q) (λ r. vid_at r b) (vid_at q e)

abbrev pub type_at : Name → Env → Option TyEntry
type_at q Empty = None
type_at q (AddLocal x n v e) = type_at q e
type_at q (AddVid p v e) = type_at q e
type_at q (AddType p t e) = if is_same q p then Some t else type_at q e
type_at q (AddMod m b e) = inside_or (into m q) (λ r. type_at r b) (type_at q e)

abbrev pub mod_at : Name → Env → Option Env
mod_at q Empty = None
mod_at q (AddLocal x n v e) = mod_at q e
mod_at q (AddVid p v e) = mod_at q e
mod_at q (AddType p t e) = mod_at q e
mod_at q (AddMod m b e) = if is_same q (m ∷ []) then Some b else inside_or (into m q) (λ r. mod_at r b) (mod_at q e)

-- the binder of a number; those in modules are not seen
abbrev pub local_at : ℕ → Env → Option Entry
local_at x Empty = None
local_at x (AddLocal y n v e) = if nat_eq x y then Some v else local_at x e
local_at x (AddVid p v e) = local_at x e
local_at x (AddType p t e) = local_at x e
local_at x (AddMod m b e) = local_at x e

-- d put over e
abbrev pub over : Env → Env → Env
over Empty e = e
over (AddLocal x n v d) e = AddLocal x n v (over d e)
over (AddVid p v d) e = AddVid p v (over d e)
over (AddType p t d) e = AddType p t (over d e)
over (AddMod m b d) e = AddMod m b (over d e)

-- an identifier that begins with these two bytes is that of an equality function: `=` and a digit
abbrev pub is_equality_name : ℕ → ℕ → Bool
is_equality_name b d = nat_eq b 61 && (nat_le 48 d && nat_le d 57)

-- the path of a binder at structure level: its identifier, or, of the equality function of a type name, `eq` and the
-- type name's number
abbrev pub binder_path : Part → Name
binder_path [] = []
binder_path (b ∷ []) = (b ∷ []) ∷ []
binder_path (b ∷ d ∷ n) = if is_equality_name b d then codes "eq" ∷ (d ∷ n) ∷ [] else (b ∷ d ∷ n) ∷ []

-- a binder at structure level is found by its path too, if it binds an identifier
abbrev pub put_named : Part → Entry → Env → Env
put_named [] v e = e
put_named (b ∷ n) (General level vars body) e = AddVid (binder_path (b ∷ n)) (Variable (record { vars = vars; body = body })) e
put_named (b ∷ n) (Within t es) e = e

abbrev pub named : Env → Env
named Empty = Empty
named (AddLocal x n v e) = put_named n v (AddLocal x n v (named e))
named (AddVid p v e) = AddVid p v (named e)
named (AddType p t e) = AddType p t (named e)
named (AddMod m b e) = AddMod m b (named e)

-- the identifiers that the binders of an environment bind
abbrev pub names_in : Env → List Part
names_in Empty = []
names_in (AddLocal x [] v e) = names_in e
names_in (AddLocal x (b ∷ n) v e) = (b ∷ n) ∷ names_in e
names_in (AddVid p v e) = names_in e
names_in (AddType p t e) = names_in e
names_in (AddMod m b e) = names_in e

-- without the binders, which are seen in their own unit alone
abbrev pub without_locals : Env → Env
without_locals Empty = Empty
without_locals (AddLocal x n v e) = without_locals e
without_locals (AddVid p v e) = AddVid p v (without_locals e)
without_locals (AddType p t e) = AddType p t (without_locals e)
without_locals (AddMod m b e) = AddMod m b (without_locals e)

-- the binder whose identifier gives this path; those in modules are not seen
abbrev pub binder_at : Name → Env → Option Entry
binder_at q Empty = None
binder_at q (AddLocal x n v e) = if is_same q (binder_path n) then Some v else binder_at q e
binder_at q (AddVid p v e) = binder_at q e
binder_at q (AddType p t e) = binder_at q e
binder_at q (AddMod m b e) = binder_at q e

-- The variables that a pattern binds, with their schemes.
use Rattle.std.specs.Prelude.{◌≡◌, ℕ, false}
use Rattle.std.specs.Str.{bytes_eq}
use Rattle.oc_ast.specs.Plain.{Bytes}
use Rattle.oc_typing.specs.Ty.{Ty, IsClosed, StampsBelow, inst}
use Rattle.oc_typing.specs.Env.{Env, AddVal}

pub data Vars : Type 0 where
  NoVars : Vars
  OneVar : Bytes → Ty → Vars → Vars

abbrev pub joined : Vars → Vars → Vars
joined NoVars cs = cs
joined (OneVar x t bs) cs = OneVar x t (joined bs cs)

abbrev pub inst_vars : (ℕ → Ty) → Vars → Vars
inst_vars us NoVars = NoVars
inst_vars us (OneVar x t bs) = OneVar x (inst us t) (inst_vars us bs)

abbrev pub put_vars : Vars → Env → Env
put_vars NoVars e = e
put_vars (OneVar x t bs) e = put_vars bs (AddVal x t e)

abbrev pub VarsClosed : Vars → Type 0
VarsClosed NoVars = Unit {0}
VarsClosed (OneVar x t bs) = IsClosed t × VarsClosed bs

-- their types have stamps below c
abbrev pub VarsBelow : ℕ → Vars → Type 0
VarsBelow c NoVars = Unit {0}
VarsBelow c (OneVar x t bs) = StampsBelow c t × VarsBelow c bs

abbrev pub IsOther : Bytes → Vars → Type 0
IsOther x NoVars = Unit {0}
IsOther x (OneVar y t bs) = (bytes_eq x y ≡ false) × IsOther x bs

-- no name is bound twice
abbrev pub Differ : Vars → Type 0
Differ NoVars = Unit {0}
Differ (OneVar x t bs) = IsOther x bs × Differ bs

-- Breaches in types, and the type variables of types.
use Rattle.std.specs.Prelude.{if◌then◌else◌, List, [], ◌∷◌, ◌++◌, map, Option, Some, None}
use Rattle.tl_text.specs.Pairs.{seconds}
use Rattle.tl_text.specs.declared.code.Code.TheVariants.{TyvarScope}
use Rattle.tl_text.specs.declared.fault.Refusal.{Refusal}
use Rattle.tl_text.specs.declared.place.Place.{Place}
use Rattle.tl_text.specs.declared.name.Name.{Name}
use Rattle.sml_ast.specs.declared.ty.Ty.{Ty, fold-Ty}
use Rattle.sml_ast.specs.declared.ty.Ty.TheOpen.{Ty-F}
use Rattle.sml_ast.specs.declared.name.Lab.{Lab}
use Rattle.sml_restrict_core.specs.Breaches.{breach, joined}
use Rattle.sml_restrict_core.specs.Repeats.{contains, labels_twice}

-- the labels of a row of fields
abbrev pub labels : {T : Type 0} → List ((Place × Lab) × T) → List (Place × Lab)
labels = map (λ f. f.0)

-- one level of a type, with the breaches of each part in its place
abbrev pub ty_step : Ty-F (List Refusal) → List Refusal
ty_step (Ty-F.Tyvar p v) = []
ty_step (Ty-F.TFields p fields) = labels_twice (labels fields) ++ joined (seconds fields)
ty_step (Ty-F.TCon p ts c) = joined ts
ty_step (Ty-F.TTuple p t ts) = t ++ joined ts
ty_step (Ty-F.Arrow p t u) = t ++ u
ty_step (Ty-F.TParen p t) = t

-- the breaches in a type: a label stands twice in a record
abbrev pub ty_breaches : Ty → List Refusal
ty_breaches = fold-Ty (List Refusal) ty_step

-- one level of a type, with the type variables of each part in its place
abbrev pub tyvars_step : Ty-F (List (Place × Name)) → List (Place × Name)
tyvars_step (Ty-F.Tyvar p v) = v ∷ []
tyvars_step (Ty-F.TFields p fields) = joined (seconds fields)
tyvars_step (Ty-F.TCon p ts c) = joined ts
tyvars_step (Ty-F.TTuple p t ts) = t ++ joined ts
tyvars_step (Ty-F.Arrow p t u) = t ++ u
tyvars_step (Ty-F.TParen p t) = t

-- the type variables of a type, where they stand
abbrev pub tyvars : Ty → List (Place × Name)
tyvars = fold-Ty (List (Place × Name)) tyvars_step

-- the same of a type that may be missing
abbrev pub opt_ty_breaches : Option Ty → List Refusal
opt_ty_breaches None = []
opt_ty_breaches (Some t) = ty_breaches t

abbrev pub opt_tyvars : Option Ty → List (Place × Name)
opt_tyvars None = []
opt_tyvars (Some t) = tyvars t

-- a breach at each type variable that is not among the parameters
abbrev pub unbound : List (Place × Name) → List (Place × Name) → List Refusal
unbound vs [] = []
unbound vs (x ∷ xs) = if contains x.1 vs then unbound vs xs else breach TyvarScope x.0 ∷ unbound vs xs

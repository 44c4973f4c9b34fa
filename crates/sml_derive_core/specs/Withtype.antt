-- The types of a `withtype`, put in place in the constructors of its datatypes.
use Rattle.std.specs.Prelude.{Bool, if◌then◌else◌, ◌==◌, nat_eq, length, List, [], ◌∷◌, map, Option, Some, None}
use Rattle.std.specs.Cmp.Lexicographic.{pointwise}
use Rattle.tl_text.specs.declared.place.Place.{Place}
use Rattle.tl_text.specs.declared.name.Name.{Name}
use Rattle.sml_derive_core.specs.Types.{derived_ty}
use Rattle.sml_ast.specs.declared.ty.Ty.{Ty}
use Rattle.sml_ast.specs.declared.data.DatBind.{DatBind}
use Rattle.sml_ast.specs.declared.data.DatBind.TheVariants as dat_bind
use Rattle.sml_ast.specs.declared.bare_ty.BareTy.{BareTy, fold-BareTy, roll-BareTy}
use Rattle.sml_ast.specs.declared.bare_ty.BareTy.TheOpen.{BareTy-F}
use Rattle.sml_ast.specs.declared.bare_ty.BareTy.TheVariants as ty
use Rattle.sml_ast.specs.declared.bare_data.BareDatBind.{BareDatBind}
use Rattle.sml_ast.specs.declared.bare_data.BareDatBind.TheVariants as bare_dat_bind

-- the argument of a parameter
abbrev pub argument : List (Place × Name) → List BareTy → Name → Option BareTy
argument [] ts w = None
argument (v ∷ vs) [] w = None
argument (v ∷ vs) (t ∷ ts) w = if pointwise nat_eq v.1 w then Some t else argument vs ts w

-- a variable, or what stands in its place
abbrev pub variable_or : Place → Place × Name → Option BareTy → BareTy
variable_or p v None = ty.Tyvar p v
variable_or p v (Some t) = t

-- one level of a type in which the arguments ts go in the place of the parameters vs
abbrev pub fill_step : List (Place × Name) → List BareTy → BareTy-F BareTy → BareTy
fill_step vs ts (BareTy-F.Tyvar p v) = variable_or p v (argument vs ts v.1)
fill_step vs ts x = roll-BareTy x

abbrev pub filled : List (Place × Name) → List BareTy → BareTy → BareTy
filled vs ts = fold-BareTy BareTy (fill_step vs ts)

-- the binding of a type's name; a name of several parts has none
abbrev pub bound : Name → List (List (Place × Name) × (Place × Name) × BareTy) → Option (List (Place × Name) × (Place × Name) × BareTy)
bound x [] = None
bound x (b ∷ bs) = if pointwise nat_eq b.1.1 x then Some b else bound x bs

abbrev pub definition : List Name → List (List (Place × Name) × (Place × Name) × BareTy) → Option (List (Place × Name) × (Place × Name) × BareTy)
definition [] bs = None
definition (x ∷ []) bs = bound x bs
definition (x ∷ (y ∷ ys)) bs = None

-- a type that has no typing: the datatype itself with a wrong number of arguments
abbrev pub untypable : Place → List (Place × Name) → Name → BareTy
untypable p [] t = ty.TCon p (ty.TFields p [] ∷ []) (p, t ∷ [])
untypable p (v ∷ vs) t = ty.TCon p [] (p, t ∷ [])

-- an application of a type's name in the datatype t with the parameters vs, where the name has such a binding
abbrev pub applied : List (Place × Name) → Name → Place → List BareTy → Place × List Name → Option (List (Place × Name) × (Place × Name) × BareTy) → BareTy
applied vs t p ts c None = ty.TCon p ts c
applied vs t p ts c (Some b) = if length b.0 == length ts then filled b.0 ts b.2 else untypable p vs t

-- one level of a type in the datatype t with the parameters vs, whose parts are expanded already
abbrev pub expand_step : List (List (Place × Name) × (Place × Name) × BareTy) → List (Place × Name) → Name → BareTy-F BareTy → BareTy
expand_step bs vs t (BareTy-F.TCon p ts c) = applied vs t p ts c (definition c.1 bs)
expand_step bs vs t x = roll-BareTy x

-- a type in which the bindings bs are put in place
abbrev pub expanded : List (List (Place × Name) × (Place × Name) × BareTy) → List (Place × Name) → Name → BareTy → BareTy
expanded bs vs t = fold-BareTy BareTy (expand_step bs vs t)

-- the same of the argument of a constructor, which may be missing
abbrev pub expanded_opt : List (List (Place × Name) × (Place × Name) × BareTy) → List (Place × Name) → Name → Option Ty → Option BareTy
expanded_opt bs vs t None = None
expanded_opt bs vs t (Some u) = Some (expanded bs vs t (derived_ty u))

-- a constructor of a datatype, and a datatype, in which the bindings bs are put in place
abbrev pub expanded_con : List (List (Place × Name) × (Place × Name) × BareTy) → List (Place × Name) → Name → Bool × (Place × Name) × Option Ty → Bool × (Place × Name) × Option BareTy
expanded_con bs vs t c = (c.0, c.1, expanded_opt bs vs t c.2)

abbrev pub expanded_dat_bind : List (List (Place × Name) × (Place × Name) × BareTy) → DatBind → BareDatBind
expanded_dat_bind bs (dat_bind.Data p vs t cons) = bare_dat_bind.Data p vs t (map (expanded_con bs vs t.1) cons)

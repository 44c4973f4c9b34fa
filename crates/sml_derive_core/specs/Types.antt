-- Types without derived forms.
use Rattle.std.specs.Prelude.{◌∷◌, Option, option_map}
use Rattle.sml_derive_core.specs.Names.{numbered}
use Rattle.sml_ast.specs.declared.ty.Ty.{Ty, fold-Ty}
use Rattle.sml_ast.specs.declared.ty.Ty.TheOpen.{Ty-F}
use Rattle.sml_ast.specs.declared.bare_ty.BareTy.{BareTy}
use Rattle.sml_ast.specs.declared.bare_ty.BareTy.TheVariants as ty

-- one level of a type, whose parts are derived already: `t * u` stands for `{1 : t, 2 : u}`
abbrev pub ty_step : Ty-F BareTy → BareTy
ty_step (Ty-F.Tyvar p v) = ty.Tyvar p v
ty_step (Ty-F.TFields p fields) = ty.TFields p fields
ty_step (Ty-F.TCon p ts c) = ty.TCon p ts c
ty_step (Ty-F.TTuple p t ts) = ty.TFields p (numbered p 1 (t ∷ ts))
ty_step (Ty-F.Arrow p t u) = ty.Arrow p t u
ty_step (Ty-F.TParen p t) = ty.TParen p t

-- a type without derived forms
abbrev pub derived_ty : Ty → BareTy
derived_ty = fold-Ty BareTy ty_step

-- the same of a type that may be missing
abbrev pub derived_opt_ty : Option Ty → Option BareTy
derived_opt_ty = option_map derived_ty

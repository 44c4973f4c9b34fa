-- Bindings of types, datatypes and exceptions without derived forms.
use Rattle.std.specs.Prelude.{Bool, List, map, Option}
use Rattle.tl_text.specs.declared.place.Place.{Place}
use Rattle.tl_text.specs.declared.name.Name.{Name}
use Rattle.sml_derive_core.specs.Types.{derived_ty, derived_opt_ty}
use Rattle.sml_ast.specs.declared.ty.Ty.{Ty}
use Rattle.sml_ast.specs.declared.data.DatBind.{DatBind}
use Rattle.sml_ast.specs.declared.data.DatBind.TheVariants as dat_bind
use Rattle.sml_ast.specs.declared.data.DatDesc.{DatDesc}
use Rattle.sml_ast.specs.declared.data.DatDesc.TheVariants as dat_desc
use Rattle.sml_ast.specs.declared.data.ExBind.{ExBind}
use Rattle.sml_ast.specs.declared.data.ExBind.TheVariants as ex_bind
use Rattle.sml_ast.specs.declared.bare_ty.BareTy.{BareTy}
use Rattle.sml_ast.specs.declared.bare_data.BareDatBind.{BareDatBind}
use Rattle.sml_ast.specs.declared.bare_data.BareDatBind.TheVariants as bare_dat_bind
use Rattle.sml_ast.specs.declared.bare_data.BareDatDesc.{BareDatDesc}
use Rattle.sml_ast.specs.declared.bare_data.BareDatDesc.TheVariants as bare_dat_desc
use Rattle.sml_ast.specs.declared.bare_data.BareExBind.{BareExBind}
use Rattle.sml_ast.specs.declared.bare_data.BareExBind.TheVariants as bare_ex_bind

-- 'a t = u
abbrev pub derived_ty_bind : List (Place × Name) × (Place × Name) × Ty → List (Place × Name) × (Place × Name) × BareTy
derived_ty_bind b = (b.0, b.1, derived_ty b.2)

-- a constructor of a datatype, and one of a description
abbrev pub derived_con : Bool × (Place × Name) × Option Ty → Bool × (Place × Name) × Option BareTy
derived_con c = (c.0, c.1, derived_opt_ty c.2)

abbrev pub described_con : (Place × Name) × Option Ty → (Place × Name) × Option BareTy
described_con c = (c.0, derived_opt_ty c.1)

-- a binding of a datatype, a description of one, and a binding of an exception
abbrev pub derived_dat_bind : DatBind → BareDatBind
derived_dat_bind (dat_bind.Data p vs t cons) = bare_dat_bind.Data p vs t (map derived_con cons)

abbrev pub derived_dat_desc : DatDesc → BareDatDesc
derived_dat_desc (dat_desc.Desc p vs t cons) = bare_dat_desc.Desc p vs t (map described_con cons)

abbrev pub derived_ex_bind : ExBind → BareExBind
derived_ex_bind (ex_bind.NewExn p o x t) = bare_ex_bind.NewExn p o x (derived_opt_ty t)
derived_ex_bind (ex_bind.SameExn p o x q y) = bare_ex_bind.SameExn p o x q y

-- What a `withtype` stands for (the Definition, appendix A, figure 17).
use Rattle.std.specs.Prelude.{List, [], ◌∷◌, map}
use Rattle.tl_text.specs.declared.place.Place.{Place}
use Rattle.tl_text.specs.declared.name.Name.{Name}
use Rattle.sml_derive_core.specs.Bindings.{derived_ty_bind, derived_dat_bind}
use Rattle.sml_derive_core.specs.Withtype.{expanded_dat_bind}
use Rattle.sml_ast.specs.declared.ty.Ty.{Ty}
use Rattle.sml_ast.specs.declared.data.DatBind.{DatBind}
use Rattle.sml_ast.specs.declared.bare_data.BareDatBind.{BareDatBind}
use Rattle.sml_ast.specs.declared.bare_exp.BareDec.{BareDec}
use Rattle.sml_ast.specs.declared.bare_exp.BareDec.TheVariants as dec

-- datatypes whose constructors have the types ts put in place
unfoldable pub in_place : List DatBind → List (List (Place × Name) × (Place × Name) × Ty) → List BareDatBind
in_place binds ts = map (expanded_dat_bind (map derived_ty_bind ts)) binds

-- type ts
unfoldable pub types : Place → List (List (Place × Name) × (Place × Name) × Ty) → BareDec
types p ts = dec.Types p (map derived_ty_bind ts)

-- `datatype b withtype t`: datatype b' type t, where b' has the types t put in place; one declaration, in a `local` that
-- hides nothing
abbrev pub datas : Place → List DatBind → List (List (Place × Name) × (Place × Name) × Ty) → BareDec
datas p binds [] = dec.Datas p (map derived_dat_bind binds)
datas p binds (t ∷ ts) = dec.Local p [] (dec.Datas p (in_place binds (t ∷ ts)) ∷ types p (t ∷ ts) ∷ [])

-- `abstype b withtype t with d end`: abstype b' with type t d end
abbrev pub hidden_datas : Place → List DatBind → List (List (Place × Name) × (Place × Name) × Ty) → List BareDec → BareDec
hidden_datas p binds [] ds = dec.Abs p (map derived_dat_bind binds) ds
hidden_datas p binds (t ∷ ts) ds = dec.Abs p (in_place binds (t ∷ ts)) (types p (t ∷ ts) ∷ ds)

-- What a phrase is made of, where it is of one form.
use Rattle.std.specs.Prelude.{Option, Some, None}
use Rattle.tl_text.specs.declared.name.Name.{Name}
use Rattle.tl_text.specs.declared.place.Place.{Place}
use Rattle.sml_ast.specs.declared.ty.Ty.{Ty}
use Rattle.sml_ast.specs.declared.pat.AtPat.{AtPat}
use Rattle.sml_ast.specs.declared.pat.AtPat.TheOpen.{Pat-F}
use Rattle.sml_ast.specs.declared.pat.PField.{PField}
use Rattle.sml_ast.specs.declared.pat.Pat.{Pat, out-Pat}
use Rattle.sml_ast.specs.declared.exp.Dec.{Dec}
use Rattle.sml_ast.specs.declared.sig.SigExp.{SigExp, out-SigExp}
use Rattle.sml_ast.specs.declared.sig.SigExp.TheOpen.{SigExp-F}
use Rattle.sml_ast.specs.declared.sig.Spec.{Spec}
use Rattle.sml_ast.specs.declared.program.StrBind.{StrBind}
use Rattle.sml_ast.specs.declared.program.StrBind.TheOpen.{StrDec-F}
use Rattle.sml_ast.specs.declared.program.StrDec.{StrDec, out-StrDec}
use Rattle.sml_ast.specs.declared.program.StrExp.{StrExp}

abbrev pub typed_in : Pat-F AtPat PField Pat → Option (Pat × Ty)
typed_in (Pat-F.PTyped p q t) = Some (q, t)
typed_in _ = None

-- the pattern and the type of `p : t`
abbrev pub typed : Pat → Option (Pat × Ty)
typed p = typed_in (out-Pat p)

abbrev pub identifier_in : SigExp-F SigExp Spec → Option (Place × Name)
identifier_in (SigExp-F.SigAt p v) = Some v
identifier_in _ = None

-- the identifier that a signature is
abbrev pub identifier : SigExp → Option (Place × Name)
identifier s = identifier_in (out-SigExp s)

abbrev pub core_in : StrDec-F StrBind StrDec StrExp → Option Dec
core_in (StrDec-F.Core p d) = Some d
core_in _ = None

-- the declaration of the core that a declaration at structure level is
abbrev pub core : StrDec → Option Dec
core d = core_in (out-StrDec d)

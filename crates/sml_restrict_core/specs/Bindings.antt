-- Breaches in bindings of types, datatypes and exceptions, and the names that bindings bind.
use Rattle.std.specs.Prelude.{Bool, List, ◌++◌, map, Option}
use Rattle.tl_text.specs.declared.fault.Refusal.{Refusal}
use Rattle.tl_text.specs.declared.place.Place.{Place}
use Rattle.tl_text.specs.declared.name.Name.{Name}
use Rattle.sml_ast.specs.declared.ty.Ty.{Ty}
use Rattle.sml_ast.specs.declared.data.DatBind.{DatBind}
use Rattle.sml_ast.specs.declared.data.DatBind.TheVariants as dat_bind
use Rattle.sml_ast.specs.declared.data.DatDesc.{DatDesc}
use Rattle.sml_ast.specs.declared.data.DatDesc.TheVariants as dat_desc
use Rattle.sml_ast.specs.declared.data.ExBind.{ExBind}
use Rattle.sml_ast.specs.declared.data.ExBind.TheVariants as ex_bind
use Rattle.sml_ast.specs.declared.program.SigBind.{SigBind}
use Rattle.sml_ast.specs.declared.program.SigBind.TheVariants as sig_bind
use Rattle.sml_ast.specs.declared.program.FunBind.{FunBind}
use Rattle.sml_ast.specs.declared.program.FunBind.TheVariants as fun_bind
use Rattle.sml_restrict_core.specs.Breaches.{joined}
use Rattle.sml_restrict_core.specs.Repeats.{twice, con_rebinds}
use Rattle.sml_restrict_core.specs.Types.{ty_breaches, opt_ty_breaches, tyvars, opt_tyvars, unbound}

-- breaches in a type whose type variables are parameters
abbrev pub closed : List (Place × Name) → Ty → List Refusal
closed vs t = ty_breaches t ++ unbound vs (tyvars t)

abbrev pub opt_closed : List (Place × Name) → Option Ty → List Refusal
opt_closed vs t = opt_ty_breaches t ++ unbound vs (opt_tyvars t)

-- breaches in a binding of a type
abbrev pub ty_bind_breaches : List (Place × Name) × (Place × Name) × Ty → List Refusal
ty_bind_breaches b = twice b.0 ++ closed b.0 b.2

-- breaches in the constructor of a datatype with parameters, and in one of a description
abbrev pub con_breaches : List (Place × Name) → Bool × (Place × Name) × Option Ty → List Refusal
con_breaches vs c = con_rebinds c.1 ++ opt_closed vs c.2

abbrev pub described_breaches : List (Place × Name) → (Place × Name) × Option Ty → List Refusal
described_breaches vs c = con_rebinds c.0 ++ opt_closed vs c.1

-- breaches in a binding of a datatype, and in a description of one
abbrev pub dat_bind_breaches : DatBind → List Refusal
dat_bind_breaches (dat_bind.Data p vs t cons) = twice vs ++ joined (map (con_breaches vs) cons)

abbrev pub dat_desc_breaches : DatDesc → List Refusal
dat_desc_breaches (dat_desc.Desc p vs t cons) = twice vs ++ joined (map (described_breaches vs) cons)

-- the name of a datatype, and the names of its constructors
abbrev pub dat_bind_name : DatBind → Place × Name
dat_bind_name (dat_bind.Data p vs t cons) = t

abbrev pub dat_bind_cons : DatBind → List (Place × Name)
dat_bind_cons (dat_bind.Data p vs t cons) = map (λ c. c.1) cons

abbrev pub dat_desc_name : DatDesc → Place × Name
dat_desc_name (dat_desc.Desc p vs t cons) = t

abbrev pub dat_desc_cons : DatDesc → List (Place × Name)
dat_desc_cons (dat_desc.Desc p vs t cons) = map (λ c. c.0) cons

-- breaches in the bindings of one `type` declaration or specification
abbrev pub types_breaches : List (List (Place × Name) × (Place × Name) × Ty) → List Refusal
types_breaches binds = twice (map (λ b. b.1) binds) ++ joined (map ty_bind_breaches binds)

-- breaches in one `datatype` declaration with its `withtype`: all its types have different names, and all its constructors
abbrev pub datas_breaches : List DatBind → List (List (Place × Name) × (Place × Name) × Ty) → List Refusal
datas_breaches binds tys =
    twice (map dat_bind_name binds ++ map (λ b. b.1) tys) ++ twice (joined (map dat_bind_cons binds))
    ++ joined (map dat_bind_breaches binds) ++ joined (map ty_bind_breaches tys)

-- the same of one `datatype` specification
abbrev pub descs_breaches : List DatDesc → List Refusal
descs_breaches descs =
    twice (map dat_desc_name descs) ++ twice (joined (map dat_desc_cons descs)) ++ joined (map dat_desc_breaches descs)

-- breaches in a binding of an exception, and in one `exception` declaration
abbrev pub ex_bind_name : ExBind → Place × Name
ex_bind_name (ex_bind.NewExn p o x t) = x
ex_bind_name (ex_bind.SameExn p o x q y) = x

abbrev pub ex_bind_breaches : ExBind → List Refusal
ex_bind_breaches (ex_bind.NewExn p o x t) = con_rebinds x ++ opt_ty_breaches t
ex_bind_breaches (ex_bind.SameExn p o x q y) = con_rebinds x

abbrev pub exns_breaches : List ExBind → List Refusal
exns_breaches binds = twice (map ex_bind_name binds) ++ joined (map ex_bind_breaches binds)

-- the name of a signature, and of a functor
abbrev pub sig_bind_name : SigBind → Place × Name
sig_bind_name (sig_bind.SigAs p x s) = x

abbrev pub fun_bind_name : FunBind → Place × Name
fun_bind_name (fun_bind.FunOf p f x s a e) = f
fun_bind_name (fun_bind.FunSpecs p f specs a e) = f

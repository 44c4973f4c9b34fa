-- Breaches in signatures, structures and whole sources, and the one that stands first.
use Rattle.std.specs.Prelude.{◌≡◌, List, [], ◌++◌, map, Option, Some, None}
use Rattle.tl_text.specs.Pairs.{seconds}
use Rattle.tl_text.specs.declared.code.Code.{Code}
use Rattle.tl_text.specs.declared.fault.Refusal.{Refusal}
use Rattle.tl_text.specs.declared.place.Place.{Place}
use Rattle.tl_text.specs.declared.name.Name.{Name}
use Rattle.sml_ast.specs.declared.ty.Ty.{Ty}
use Rattle.sml_ast.specs.declared.sig.SigExp.{SigExp, fold-SigExp}
use Rattle.sml_ast.specs.declared.sig.SigExp.TheOpen.{SigExp-F, Spec-F}
use Rattle.sml_ast.specs.declared.sig.Spec.{Spec, fold-Spec}
use Rattle.sml_ast.specs.declared.sig.Ascribe.{Ascribe}
use Rattle.sml_ast.specs.declared.sig.Ascribe.TheVariants as ascribe
use Rattle.sml_ast.specs.declared.program.StrBind.{StrBind, fold-StrBind}
use Rattle.sml_ast.specs.declared.program.StrBind.TheOpen.{StrBind-F, StrDec-F, StrExp-F}
use Rattle.sml_ast.specs.declared.program.StrDec.{StrDec, fold-StrDec}
use Rattle.sml_ast.specs.declared.program.StrExp.{StrExp, fold-StrExp}
use Rattle.sml_ast.specs.declared.program.SigBind.{SigBind}
use Rattle.sml_ast.specs.declared.program.SigBind.TheVariants as sig_bind
use Rattle.sml_ast.specs.declared.program.FunBind.{FunBind}
use Rattle.sml_ast.specs.declared.program.FunBind.TheVariants as fun_bind
use Rattle.sml_ast.specs.declared.program.Top.{Top}
use Rattle.sml_ast.specs.declared.program.Top.TheVariants as top
use Rattle.sml_ast.specs.declared.program.Program.{Program}
use Rattle.sml_ast.specs.declared.program.Program.TheVariants as program
use Rattle.sml_restrict_core.specs.Bindings.{closed, types_breaches, descs_breaches, sig_bind_name, fun_bind_name}
use Rattle.sml_restrict_core.specs.Breaches.{breach, first, joined}
use Rattle.sml_restrict_core.specs.Repeats.{con_rebinds, rebinds, twice}
use Rattle.sml_restrict_core.specs.Types.{ty_breaches, opt_ty_breaches}
use Rattle.sml_restrict.specs.Expressions.{dec_facts, exp_facts}

-- breaches in the description of a value, of an exception and of a type
abbrev pub val_breaches : (Place × Name) × Ty → List Refusal
val_breaches x = rebinds x.0 ++ ty_breaches x.1

abbrev pub exn_breaches : (Place × Name) × Option Ty → List Refusal
exn_breaches x = con_rebinds x.0 ++ opt_ty_breaches x.1

abbrev pub tys_breaches : List (List (Place × Name) × (Place × Name)) → List Refusal
tys_breaches xs = twice (map (λ x. x.1) xs) ++ joined (map (λ x. twice x.0) xs)

-- one level of a signature expression and of a specification, with the breaches of each part in its place
abbrev pub sig_step : SigExp-F (List Refusal) (List Refusal) → List Refusal
sig_step (SigExp-F.Specs p specs) = joined specs
sig_step (SigExp-F.SigAt p x) = []
sig_step (SigExp-F.Real p q s vs c t) = s ++ twice vs ++ closed vs t

abbrev pub spec_step : Spec-F (List Refusal) (List Refusal) → List Refusal
spec_step (Spec-F.ValSpec p xs) = twice (map (λ x. x.0) xs) ++ joined (map val_breaches xs)
spec_step (Spec-F.TySpec p xs) = tys_breaches xs
spec_step (Spec-F.EqSpec p xs) = tys_breaches xs
spec_step (Spec-F.SynSpec p binds) = types_breaches binds
spec_step (Spec-F.DataSpec p descs) = descs_breaches descs
spec_step (Spec-F.CopySpec p t u) = []
spec_step (Spec-F.ExnSpec p xs) = twice (map (λ x. x.0) xs) ++ joined (map exn_breaches xs)
spec_step (Spec-F.StrSpec p xs) = twice (map (λ x. x.0) xs) ++ joined (seconds xs)
spec_step (Spec-F.Incl p s) = s
spec_step (Spec-F.Incls p xs) = []
spec_step (Spec-F.ShareTy p x xs) = []
spec_step (Spec-F.ShareStr p x xs) = []

-- the breaches in a signature expression, in a specification and in an ascription
abbrev pub sig_breaches : SigExp → List Refusal
sig_breaches = fold-SigExp (List Refusal) (List Refusal) sig_step spec_step

abbrev pub spec_breaches : Spec → List Refusal
spec_breaches = fold-Spec (List Refusal) (List Refusal) sig_step spec_step

abbrev pub ascribe_breaches : Ascribe → List Refusal
ascribe_breaches (ascribe.Clear p s) = sig_breaches s
ascribe_breaches (ascribe.Opaque p s) = sig_breaches s

abbrev pub opt_ascribe_breaches : Option Ascribe → List Refusal
opt_ascribe_breaches None = []
opt_ascribe_breaches (Some a) = ascribe_breaches a

-- one level of a binding of a structure, with its name, of a declaration at structure level and of a structure expression
abbrev pub str_bind_step : StrBind-F ((Place × Name) × List Refusal) (List Refusal) (List Refusal) → (Place × Name) × List Refusal
str_bind_step (StrBind-F.Bind p x a e) = (x, opt_ascribe_breaches a ++ e)

abbrev pub str_dec_step : StrDec-F ((Place × Name) × List Refusal) (List Refusal) (List Refusal) → List Refusal
str_dec_step (StrDec-F.Core p d) = (dec_facts d).broken
str_dec_step (StrDec-F.Structs p binds) = twice (map (λ b. b.0) binds) ++ joined (seconds binds)
str_dec_step (StrDec-F.LocalStr p ds es) = joined ds ++ joined es

abbrev pub str_exp_step : StrExp-F ((Place × Name) × List Refusal) (List Refusal) (List Refusal) → List Refusal
str_exp_step (StrExp-F.Body p ds) = joined ds
str_exp_step (StrExp-F.At p x) = []
str_exp_step (StrExp-F.Seal p e a) = e ++ ascribe_breaches a
str_exp_step (StrExp-F.Call p f e) = e
str_exp_step (StrExp-F.CallBody p f ds) = joined ds
str_exp_step (StrExp-F.LetStr p ds e) = joined ds ++ e

-- the name and the breaches of a binding of a structure; the breaches in a declaration at structure level and in a structure expression
abbrev pub str_bind_breaches : StrBind → (Place × Name) × List Refusal
str_bind_breaches = fold-StrBind ((Place × Name) × List Refusal) (List Refusal) (List Refusal) str_bind_step str_dec_step str_exp_step

abbrev pub str_dec_breaches : StrDec → List Refusal
str_dec_breaches = fold-StrDec ((Place × Name) × List Refusal) (List Refusal) (List Refusal) str_bind_step str_dec_step str_exp_step

abbrev pub str_exp_breaches : StrExp → List Refusal
str_exp_breaches = fold-StrExp ((Place × Name) × List Refusal) (List Refusal) (List Refusal) str_bind_step str_dec_step str_exp_step

-- the breaches in a binding of a signature and of a functor
abbrev pub sig_bind_breaches : SigBind → List Refusal
sig_bind_breaches (sig_bind.SigAs p x s) = sig_breaches s

abbrev pub fun_bind_breaches : FunBind → List Refusal
fun_bind_breaches (fun_bind.FunOf p f x s a e) = sig_breaches s ++ opt_ascribe_breaches a ++ str_exp_breaches e
fun_bind_breaches (fun_bind.FunSpecs p f specs a e) = joined (map spec_breaches specs) ++ opt_ascribe_breaches a ++ str_exp_breaches e

-- the breaches in a top-level declaration and in a source
abbrev pub top_breaches : Top → List Refusal
top_breaches (top.Strs p d) = str_dec_breaches d
top_breaches (top.Sigs p binds) = twice (map sig_bind_name binds) ++ joined (map sig_bind_breaches binds)
top_breaches (top.Funs p binds) = twice (map fun_bind_name binds) ++ joined (map fun_bind_breaches binds)
top_breaches (top.Run p e) = (exp_facts e).broken

abbrev pub breaches : Program → List Refusal
breaches (program.Tops p tops) = joined (map top_breaches tops)

-- the phrase that stands first among those that break a rule, and the rule
abbrev pub Breaks : Program → Place → Code → Type 0
Breaks t p c = first (breaches t) ≡ Some (breach c p)

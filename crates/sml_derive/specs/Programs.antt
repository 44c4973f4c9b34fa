-- Structures, functors and whole sources without derived forms: one equation for each alternative of the grammar. A derived
-- form is what the table of the Definition, appendix A, figures 18 and 19, has beside it; every other phrase is itself.
use Rattle.std.specs.Prelude.{false, List, [], ◌∷◌, map, codes, Option, Some, None}
use Rattle.tl_text.specs.declared.place.Place.{Place}
use Rattle.tl_text.specs.declared.name.Name.{Name}
use Rattle.sml_derive_core.specs.Names.{fresh_name}
use Rattle.sml_derive_core.specs.Patterns.{variable_pat}
use Rattle.sml_derive_exp.specs.Declarations.{derived_dec, derived_exp}
use Rattle.sml_derive.specs.Signatures.{joined, derived_sig, derived_spec, derived_ascribe}
use Rattle.sml_ast.specs.declared.sig.SigExp.{SigExp}
use Rattle.sml_ast.specs.declared.sig.Spec.{Spec}
use Rattle.sml_ast.specs.declared.sig.Ascribe.{Ascribe}
use Rattle.sml_ast.specs.declared.program.StrBind.{StrBind, fold-StrBind}
use Rattle.sml_ast.specs.declared.program.StrBind.TheOpen.{StrBind-F, StrDec-F, StrExp-F}
use Rattle.sml_ast.specs.declared.program.StrDec.{StrDec, fold-StrDec}
use Rattle.sml_ast.specs.declared.program.StrExp.{StrExp, fold-StrExp}
use Rattle.sml_ast.specs.declared.program.SigBind.{SigBind}
use Rattle.sml_ast.specs.declared.program.SigBind.TheVariants as sig_bind
use Rattle.sml_ast.specs.declared.program.FunBind.{FunBind}
use Rattle.sml_ast.specs.declared.program.FunBind.TheVariants as fun_bind
use Rattle.sml_ast.specs.declared.program.Top.{Top}
use Rattle.sml_ast.specs.declared.program.Top.TheVariants as top
use Rattle.sml_ast.specs.declared.program.Program.{Program}
use Rattle.sml_ast.specs.declared.program.Program.TheVariants as program
use Rattle.sml_ast.specs.declared.exp.Exp.{Exp}
use Rattle.sml_ast.specs.declared.bare_exp.BareDec.{BareDec}
use Rattle.sml_ast.specs.declared.bare_exp.BareDec.TheVariants as dec
use Rattle.sml_ast.specs.declared.bare_pat.BarePat.{BarePat}
use Rattle.sml_ast.specs.declared.bare_sig.BareSigExp.{BareSigExp}
use Rattle.sml_ast.specs.declared.bare_sig.BareSigExp.TheVariants as sig
use Rattle.sml_ast.specs.declared.bare_program.BareStrBind.{BareStrBind}
use Rattle.sml_ast.specs.declared.bare_program.BareStrBind.TheVariants as str_bind
use Rattle.sml_ast.specs.declared.bare_program.BareStrDec.{BareStrDec}
use Rattle.sml_ast.specs.declared.bare_program.BareStrDec.TheVariants as str_dec
use Rattle.sml_ast.specs.declared.bare_program.BareStrExp.{BareStrExp}
use Rattle.sml_ast.specs.declared.bare_program.BareStrExp.TheVariants as str_exp
use Rattle.sml_ast.specs.declared.bare_program.BareSigBind.{BareSigBind}
use Rattle.sml_ast.specs.declared.bare_program.BareSigBind.TheVariants as bare_sig_bind
use Rattle.sml_ast.specs.declared.bare_program.BareFunBind.{BareFunBind}
use Rattle.sml_ast.specs.declared.bare_program.BareFunBind.TheVariants as bare_fun_bind
use Rattle.sml_ast.specs.declared.bare_program.BareTop.{BareTop}
use Rattle.sml_ast.specs.declared.bare_program.BareTop.TheVariants as bare_top
use Rattle.sml_ast.specs.declared.bare_program.BareProgram.{BareProgram}
use Rattle.sml_ast.specs.declared.bare_program.BareProgram.TheVariants as bare_program

-- `S : G = e`: S = e : G
abbrev pub sealed : Place → Option Ascribe → BareStrExp → BareStrExp
sealed p None e = e
sealed p (Some a) e = str_exp.Seal p e (derived_ascribe a)

-- one level of a binding of a structure, of a declaration at structure level and of a structure expression
abbrev pub str_bind_step : StrBind-F BareStrBind BareStrDec BareStrExp → BareStrBind
str_bind_step (StrBind-F.Bind p x a e) = str_bind.Bind p x (sealed p a e)

abbrev pub str_dec_step : StrDec-F BareStrBind BareStrDec BareStrExp → BareStrDec
str_dec_step (StrDec-F.Core p d) = str_dec.Core p (derived_dec d)
str_dec_step (StrDec-F.Structs p binds) = str_dec.Structs p binds
str_dec_step (StrDec-F.LocalStr p ds es) = str_dec.LocalStr p ds es

abbrev pub str_exp_step : StrExp-F BareStrBind BareStrDec BareStrExp → BareStrExp
str_exp_step (StrExp-F.Body p ds) = str_exp.Body p ds
str_exp_step (StrExp-F.At p x) = str_exp.At p x
str_exp_step (StrExp-F.Seal p e a) = str_exp.Seal p e (derived_ascribe a)
str_exp_step (StrExp-F.Call p f e) = str_exp.Call p f e
-- `F (ds)`: F (struct ds end)
str_exp_step (StrExp-F.CallBody p f ds) = str_exp.Call p f (str_exp.Body p ds)
str_exp_step (StrExp-F.LetStr p ds e) = str_exp.LetStr p ds e

-- a binding of a structure, a declaration at structure level and a structure expression without derived forms
abbrev pub derived_str_bind : StrBind → BareStrBind
derived_str_bind = fold-StrBind BareStrBind BareStrDec BareStrExp str_bind_step str_dec_step str_exp_step

abbrev pub derived_str_dec : StrDec → BareStrDec
derived_str_dec = fold-StrDec BareStrBind BareStrDec BareStrExp str_bind_step str_dec_step str_exp_step

abbrev pub derived_str : StrExp → BareStrExp
derived_str = fold-StrExp BareStrBind BareStrDec BareStrExp str_bind_step str_dec_step str_exp_step

-- a binding of a signature
abbrev pub derived_sig_bind : SigBind → BareSigBind
derived_sig_bind (sig_bind.SigAs p x s) = bare_sig_bind.SigAs p x (derived_sig s)

-- let open v in e end
abbrev pub open_new : Place → BareStrDec
open_new p = str_dec.Core p (dec.Opens p ((p, fresh_name 1 ∷ []) ∷ []))

abbrev pub opened : Place → BareStrExp → BareStrExp
opened p e = str_exp.LetStr p (open_new p ∷ []) e

-- sig specs end
abbrev pub signature_of : Place → List Spec → BareSigExp
signature_of p specs = sig.Specs p (joined (map derived_spec specs))

-- functor f (v : s) = e, with a new name v
abbrev pub with_new : Place → Place × Name → BareSigExp → BareStrExp → BareFunBind
with_new p f s e = bare_fun_bind.FunOf p f (p, fresh_name 1) s e

-- functor f (x : s) = e
abbrev pub of_name : Place → Place × Name → Place × Name → SigExp → BareStrExp → BareFunBind
of_name p f x s e = bare_fun_bind.FunOf p f x (derived_sig s) e

-- `functor f (specs) = e`: functor f (v : sig specs end) = let open v in e end
abbrev pub of_specs : Place → Place × Name → List Spec → BareStrExp → BareFunBind
of_specs p f specs e = with_new p f (signature_of p specs) (opened p e)

-- a binding of a functor
--     `F (X : G) : H = e`: F (X : G) = e : H
abbrev pub derived_fun_bind : FunBind → BareFunBind
derived_fun_bind (fun_bind.FunOf p f x s a e) = of_name p f x s (sealed p a (derived_str e))
derived_fun_bind (fun_bind.FunSpecs p f specs a e) = of_specs p f specs (sealed p a (derived_str e))

-- the pattern `it`
abbrev pub it_pat : Place → BarePat
it_pat p = variable_pat p (p, codes "it")

-- `e;`: val it = e
abbrev pub ran : Place → Exp → BareDec
ran p e = dec.Vals p [] false ((it_pat p, derived_exp e) ∷ [])

-- a top-level declaration
abbrev pub derived_top : Top → BareTop
derived_top (top.Strs p d) = bare_top.Strs p (derived_str_dec d)
derived_top (top.Sigs p binds) = bare_top.Sigs p (map derived_sig_bind binds)
derived_top (top.Funs p binds) = bare_top.Funs p (map derived_fun_bind binds)
derived_top (top.Run p e) = bare_top.Strs p (str_dec.Core p (ran p e))

-- a source without derived forms
abbrev pub Derived : Program → BareProgram
Derived (program.Tops p tops) = bare_program.Tops p (map derived_top tops)

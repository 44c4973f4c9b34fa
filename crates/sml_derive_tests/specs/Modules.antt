-- What the derived forms of datatypes, signatures, structures, functors and sources stand for (the Definition, appendix A,
-- figures 17 to 19), as sources again: the right side of the table. New phrases stand at p, the place of the form.
use Rattle.std.specs.Prelude.{false, List, [], ◌∷◌, codes, Some, None}
use Rattle.tl_text.specs.declared.place.Place.{Place}
use Rattle.tl_text.specs.declared.name.Name.{Name}
use Rattle.sml_derive_core.specs.Names.{fresh_name}
use Rattle.sml_derive_tests.specs.Phrases.{name_pat}
use Rattle.sml_ast.specs.declared.ty.Ty.{Ty}
use Rattle.sml_ast.specs.declared.ty.Ty.TheVariants as ty
use Rattle.sml_ast.specs.declared.data.DatBind.{DatBind}
use Rattle.sml_ast.specs.declared.data.DatBind.TheVariants as dat_bind
use Rattle.sml_ast.specs.declared.exp.Dec.TheVariants as dec
use Rattle.sml_ast.specs.declared.exp.Exp.{Exp}
use Rattle.sml_ast.specs.declared.sig.SigExp.TheVariants as sig
use Rattle.sml_ast.specs.declared.sig.Spec.{Spec}
use Rattle.sml_ast.specs.declared.sig.Spec.TheVariants as spec
use Rattle.sml_ast.specs.declared.program.StrDec.TheVariants as str_dec
use Rattle.sml_ast.specs.declared.program.StrExp.{StrExp}
use Rattle.sml_ast.specs.declared.program.StrExp.TheVariants as str_exp
use Rattle.sml_ast.specs.declared.program.FunBind.{FunBind}
use Rattle.sml_ast.specs.declared.program.FunBind.TheVariants as fun_bind
use Rattle.sml_ast.specs.declared.program.Top.{Top}
use Rattle.sml_ast.specs.declared.program.Top.TheVariants as top

-- 'x at q
abbrev pub variable : Place → Name → Ty
variable q x = ty.Tyvar q (q, x)

-- x u at q
abbrev pub applied : Place → Ty → Name → Ty
applied q x u = ty.TCon q (x ∷ []) (q, u ∷ [])

-- 'a t = c of x
abbrev pub datatype : Place → Name → Name → Ty → DatBind
datatype q t c x = dat_bind.Data q ((q, codes "'a") ∷ []) (q, t) ((false, (q, c), Some x) ∷ [])

-- x -> x at r
abbrev pub function : Place → Ty → Ty
function r x = ty.Arrow r x x

-- 'b u = 'b -> 'b
abbrev pub bind : Place → List (Place × Name) × (Place × Name) × Ty
bind r = ((r, codes "'b") ∷ [], (r, codes "u"), function r (variable r (codes "'b")))

-- 'a t = c of 'a u, and the same with u in place
abbrev pub written : Place → Name → Name → DatBind
written q t c = datatype q t c (applied q (variable q (codes "'a")) (codes "u"))

abbrev pub in_place : Place → Place → Name → Name → DatBind
in_place q r t c = datatype q t c (function r (variable q (codes "'a")))

-- `type t = u` as a specification: include sig type t end where type t = u
abbrev pub synonym : Place → List (Place × Name) → Place × Name → Ty → Spec
synonym p vs t u = spec.Incl p (sig.Real p p (sig.Specs p (spec.TySpec p ((vs, t) ∷ []) ∷ [])) vs (t.0, t.1 ∷ []) u)

-- let open v in e end
abbrev pub opened : Place → StrExp → StrExp
opened p e = str_exp.LetStr p (str_dec.Core p (dec.Opens p ((p, fresh_name 1 ∷ []) ∷ [])) ∷ []) e

-- `functor f (specs) = e`: functor f (v : sig specs end) = let open v in e end
abbrev pub of_specs : Place → Place × Name → List Spec → StrExp → FunBind
of_specs p f specs e = fun_bind.FunOf p f (p, fresh_name 1) (sig.Specs p specs) None (opened p e)

-- `e;`: val it = e
abbrev pub run : Place → Exp → Top
run p e = top.Strs p (str_dec.Core p (dec.Vals p [] false ((name_pat p (codes "it"), e) ∷ [])))

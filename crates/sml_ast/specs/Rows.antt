-- What the rows of the trees without derived forms stand for: chains, as the Definition writes these forms.
use Rattle.std.specs.Prelude.{false, List, [], ◌∷◌, map, codes}
use Rattle.tl_text.specs.declared.place.Place.{Place}
use Rattle.tl_text.specs.declared.name.Name.{Name}
use Rattle.sml_ast.specs.declared.bare_pat.BareAtPat.{BareAtPat, roll-BareAtPat}
use Rattle.sml_ast.specs.declared.bare_pat.BareAtPat.TheVariants as at_pat
use Rattle.sml_ast.specs.declared.bare_pat.BareAtPat.TheOpen.{BareAtPat-F}
use Rattle.sml_ast.specs.declared.bare_pat.BarePField.{BarePField, roll-BarePField}
use Rattle.sml_ast.specs.declared.bare_pat.BarePat.{BarePat, fold-BarePat, roll-BarePat}
use Rattle.sml_ast.specs.declared.bare_pat.BarePat.TheVariants as pat
use Rattle.sml_ast.specs.declared.bare_exp.BareAtExp.{BareAtExp, roll-BareAtExp}
use Rattle.sml_ast.specs.declared.bare_exp.BareAtExp.TheVariants as at_exp
use Rattle.sml_ast.specs.declared.bare_exp.BareAtExp.TheOpen.{BareAtExp-F, BareDec-F, BareExp-F, BareRule-F}
use Rattle.sml_ast.specs.declared.bare_exp.BareDec.{BareDec, fold-BareDec, roll-BareDec}
use Rattle.sml_ast.specs.declared.bare_exp.BareDec.TheVariants as dec
use Rattle.sml_ast.specs.declared.bare_exp.BareExp.{BareExp, fold-BareExp, roll-BareExp}
use Rattle.sml_ast.specs.declared.bare_exp.BareExp.TheVariants as exp
use Rattle.sml_ast.specs.declared.bare_exp.BareRule.{BareRule}
use Rattle.sml_ast.specs.declared.bare_exp.BareRule.TheVariants as rule
use Rattle.sml_ast.specs.declared.bare_program.BareStrBind.{BareStrBind, roll-BareStrBind}
use Rattle.sml_ast.specs.declared.bare_program.BareStrBind.TheOpen.{BareStrDec-F}
use Rattle.sml_ast.specs.declared.bare_program.BareStrDec.{BareStrDec, fold-BareStrDec, roll-BareStrDec}
use Rattle.sml_ast.specs.declared.bare_program.BareStrDec.TheVariants as str_dec
use Rattle.sml_ast.specs.declared.bare_program.BareStrExp.{BareStrExp, fold-BareStrExp, roll-BareStrExp}
use Rattle.sml_ast.specs.declared.bare_program.BareFunBind.{BareFunBind}
use Rattle.sml_ast.specs.declared.bare_program.BareFunBind.TheVariants as fun_bind
use Rattle.sml_ast.specs.declared.bare_program.BareTop.{BareTop}
use Rattle.sml_ast.specs.declared.bare_program.BareTop.TheVariants as top
use Rattle.sml_ast.specs.declared.bare_program.BareProgram.{BareProgram}
use Rattle.sml_ast.specs.declared.bare_program.BareProgram.TheVariants as program

-- p :: .. :: q :: nil
abbrev pub pat_chain : Place → List BarePat → BarePat
pat_chain p [] = pat.PAtom p (at_pat.PId p false (p, codes "nil" ∷ []))
pat_chain p (q ∷ qs) = pat.PInfix p q (p, codes "::") (pat_chain p qs)

-- e :: .. :: f :: nil
abbrev pub list_chain : Place → List BareExp → BareExp
list_chain p [] = exp.Apply p (at_exp.Id p false (p, codes "nil" ∷ []) ∷ [])
list_chain p (e ∷ es) = exp.Infix p e (p, codes "::") (list_chain p es)

-- (fn _ => .. g ..) (e): each is evaluated, and the last is the value
abbrev pub seq_chain : Place → BareExp → List BareExp → BareExp
seq_chain p e [] = e
seq_chain p e (f ∷ fs) =
    exp.Apply p (at_exp.Paren p (exp.Fn p (rule.Arm p (pat.PAtom p (at_pat.Any p)) (seq_chain p f fs) ∷ [])) ∷ at_exp.Paren p e ∷ [])

-- fn v => .. fn w => e
abbrev pub curried_chain : Place → List (Place × Name) → BareExp → BareExp
curried_chain p [] e = e
curried_chain p (v ∷ vs) e = exp.Fn p (rule.Arm p (pat.PAtom p (at_pat.PId p false (v.0, v.1 ∷ []))) (curried_chain p vs e) ∷ [])

-- one level of an atomic pattern, whose parts are unrolled already
abbrev pub at_pat_step : BareAtPat-F BareAtPat BarePField BarePat → BareAtPat
at_pat_step (BareAtPat-F.PRow p ps) = at_pat.PParen p (pat_chain p ps)
at_pat_step x = roll-BareAtPat x

-- a pattern with chains in the place of rows
abbrev pub unrolled_pat : BarePat → BarePat
unrolled_pat = fold-BarePat BareAtPat BarePField BarePat at_pat_step roll-BarePField roll-BarePat

-- one level of an atomic expression, of an expression, of a rule and of a declaration
abbrev pub at_exp_step : BareAtExp-F BareAtExp BareDec BareExp BareRule → BareAtExp
at_exp_step (BareAtExp-F.Row p es) = at_exp.Paren p (list_chain p es)
at_exp_step (BareAtExp-F.Seq p e es) = at_exp.Paren p (seq_chain p e es)
at_exp_step x = roll-BareAtExp x

abbrev pub exp_step : BareExp-F BareAtExp BareDec BareExp BareRule → BareExp
exp_step (BareExp-F.Curried p vs e) = curried_chain p vs e
exp_step x = roll-BareExp x

abbrev pub rule_step : BareRule-F BareAtExp BareDec BareExp BareRule → BareRule
rule_step (BareRule-F.Arm p q e) = rule.Arm p (unrolled_pat q) e

abbrev pub dec_step : BareDec-F BareAtExp BareDec BareExp BareRule → BareDec
dec_step (BareDec-F.Vals p vs r binds) = dec.Vals p vs r (map (λ b. (unrolled_pat b.0, b.1)) binds)
dec_step x = roll-BareDec x

-- an expression with chains in the place of rows, and a declaration
abbrev pub unrolled_exp : BareExp → BareExp
unrolled_exp = fold-BareExp BareAtExp BareDec BareExp BareRule at_exp_step dec_step exp_step rule_step

abbrev pub unrolled_dec : BareDec → BareDec
unrolled_dec = fold-BareDec BareAtExp BareDec BareExp BareRule at_exp_step dec_step exp_step rule_step

-- one level of a declaration at structure level
abbrev pub str_dec_step : BareStrDec-F BareStrBind BareStrDec BareStrExp → BareStrDec
str_dec_step (BareStrDec-F.Core p d) = str_dec.Core p (unrolled_dec d)
str_dec_step x = roll-BareStrDec x

-- a structure expression with chains in the place of rows, and a declaration at structure level
abbrev pub unrolled_str : BareStrExp → BareStrExp
unrolled_str = fold-BareStrExp BareStrBind BareStrDec BareStrExp roll-BareStrBind str_dec_step roll-BareStrExp

abbrev pub unrolled_str_dec : BareStrDec → BareStrDec
unrolled_str_dec = fold-BareStrDec BareStrBind BareStrDec BareStrExp roll-BareStrBind str_dec_step roll-BareStrExp

-- a functor, a top-level declaration and a source
abbrev pub unrolled_fun : BareFunBind → BareFunBind
unrolled_fun (fun_bind.FunOf p f x s e) = fun_bind.FunOf p f x s (unrolled_str e)

abbrev pub unrolled_top : BareTop → BareTop
unrolled_top (top.Strs p d) = top.Strs p (unrolled_str_dec d)
unrolled_top (top.Sigs p binds) = top.Sigs p binds
unrolled_top (top.Funs p binds) = top.Funs p (map unrolled_fun binds)

abbrev pub unrolled : BareProgram → BareProgram
unrolled (program.Tops p tops) = program.Tops p (map unrolled_top tops)

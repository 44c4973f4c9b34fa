-- Expressions and declarations without derived forms: one equation for each alternative of the grammar. A derived form is
-- what the table of the Definition, appendix A, has beside it; every other phrase is itself. Rows stay rows, as `unrolled`
-- of sml_ast reads them: `[e, f]` is (e :: f :: nil), and `(e; f)` is (case e of _ => f).
use Rattle.std.specs.Prelude.{Bool, true, List, [], ◌∷◌, map, Option, Some, None}
use Rattle.tl_text.specs.declared.place.Place.{Place}
use Rattle.tl_text.specs.declared.name.Name.{Name}
use Rattle.sml_derive_core.specs.Names.{numbered}
use Rattle.sml_derive_core.specs.Types.{derived_ty, derived_opt_ty}
use Rattle.sml_derive_core.specs.Patterns.{derived_at_pat, derived_pat}
use Rattle.sml_derive_core.specs.Bindings.{derived_ty_bind, derived_ex_bind}
use Rattle.sml_derive_forms.specs.Datatypes.{datas, hidden_datas}
use Rattle.sml_derive_forms.specs.Expressions.{picker, case_of, choice, both, either, repeat, body}
use Rattle.sml_derive_forms.specs.Functions.{function}
use Rattle.sml_derive_forms.specs.declared.clause.BareClause.{BareClause}
use Rattle.sml_ast.specs.declared.ty.Ty.{Ty}
use Rattle.sml_ast.specs.declared.pat.AtPat.{AtPat}
use Rattle.sml_ast.specs.declared.bare_pat.BareAtPat.{BareAtPat}
use Rattle.sml_ast.specs.declared.exp.AtExp.{AtExp, fold-AtExp}
use Rattle.sml_ast.specs.declared.exp.AtExp.TheOpen.{AtExp-F, Clause-F, Dec-F, Exp-F, Rule-F}
use Rattle.sml_ast.specs.declared.exp.Clause.{Clause, fold-Clause}
use Rattle.sml_ast.specs.declared.exp.Dec.{Dec, fold-Dec}
use Rattle.sml_ast.specs.declared.exp.Exp.{Exp, fold-Exp}
use Rattle.sml_ast.specs.declared.exp.Rule.{Rule, fold-Rule}
use Rattle.sml_ast.specs.declared.bare_exp.BareAtExp.{BareAtExp}
use Rattle.sml_ast.specs.declared.bare_exp.BareAtExp.TheVariants as at_exp
use Rattle.sml_ast.specs.declared.bare_exp.BareDec.{BareDec}
use Rattle.sml_ast.specs.declared.bare_exp.BareDec.TheVariants as dec
use Rattle.sml_ast.specs.declared.bare_exp.BareExp.{BareExp}
use Rattle.sml_ast.specs.declared.bare_exp.BareExp.TheVariants as exp
use Rattle.sml_ast.specs.declared.bare_exp.BareRule.{BareRule}
use Rattle.sml_ast.specs.declared.bare_exp.BareRule.TheVariants as rule

-- one level of an atomic expression, whose parts are derived already
abbrev pub at_exp_step : AtExp-F BareAtExp BareClause BareDec BareExp BareRule → BareAtExp
at_exp_step (AtExp-F.Lit p l) = at_exp.Lit p l
at_exp_step (AtExp-F.Id p o x) = at_exp.Id p o x
at_exp_step (AtExp-F.Fields p fields) = at_exp.Fields p fields
at_exp_step (AtExp-F.Pick p l) = at_exp.Paren p (picker p l)
at_exp_step (AtExp-F.Unit p) = at_exp.Fields p []
at_exp_step (AtExp-F.Tuple p e es) = at_exp.Fields p (numbered p 1 (e ∷ es))
at_exp_step (AtExp-F.Items p es) = at_exp.Row p es
at_exp_step (AtExp-F.Seq p e es) = at_exp.Seq p e es
at_exp_step (AtExp-F.Let p ds es) = at_exp.Let p ds (body p es)
at_exp_step (AtExp-F.Paren p e) = at_exp.Paren p e

-- one level of an expression
abbrev pub exp_step : Exp-F BareAtExp BareClause BareDec BareExp BareRule → BareExp
exp_step (Exp-F.Apply p es) = exp.Apply p es
exp_step (Exp-F.Infix p e v f) = exp.Infix p e v f
exp_step (Exp-F.Typed p e t) = exp.Typed p e (derived_ty t)
exp_step (Exp-F.AndAlso p e f) = both p e f
exp_step (Exp-F.OrElse p e f) = either p e f
exp_step (Exp-F.Handle p e rules) = exp.Handle p e rules
exp_step (Exp-F.Raise p e) = exp.Raise p e
exp_step (Exp-F.If p e f g) = choice p e f g
exp_step (Exp-F.While p e f) = repeat p e f
exp_step (Exp-F.Case p e rules) = case_of p e rules
exp_step (Exp-F.Fn p rules) = exp.Fn p rules

-- one level of a rule
abbrev pub rule_step : Rule-F BareAtExp BareClause BareDec BareExp BareRule → BareRule
rule_step (Rule-F.Arm p q e) = rule.Arm p (derived_pat q) e

-- a clause whose body has no derived forms any more
abbrev pub clause : Place → Bool → Place × Name → Option (BareAtPat × BareAtPat) → List AtPat → Option Ty → BareExp → BareClause
clause p o f pair args t e = record
    { place = p; op = o; name = f; pair = pair; args = map derived_at_pat args; ty = derived_opt_ty t; body = e }

-- one level of a clause; a name between two patterns is written with `op` before them
abbrev pub clause_step : Clause-F BareAtExp BareClause BareDec BareExp BareRule → BareClause
clause_step (Clause-F.Prefix p o f args t e) = clause p o f None args t e
clause_step (Clause-F.Mid p a f b t e) = clause p true f (Some (derived_at_pat a, derived_at_pat b)) [] t e
clause_step (Clause-F.MidMore p a f b args t e) = clause p true f (Some (derived_at_pat a, derived_at_pat b)) args t e

-- one level of a declaration
abbrev pub dec_step : Dec-F BareAtExp BareClause BareDec BareExp BareRule → BareDec
dec_step (Dec-F.Vals p vs r binds) = dec.Vals p vs r (map (λ b. (derived_pat b.0, b.1)) binds)
dec_step (Dec-F.Funs p vs functions) = dec.Vals p vs true (map (function p) functions)
dec_step (Dec-F.Types p binds) = dec.Types p (map derived_ty_bind binds)
dec_step (Dec-F.Datas p binds tys) = datas p binds tys
dec_step (Dec-F.Copy p t u) = dec.Copy p t u
dec_step (Dec-F.Exns p binds) = dec.Exns p (map derived_ex_bind binds)
dec_step (Dec-F.Local p ds es) = dec.Local p ds es
dec_step (Dec-F.Opens p xs) = dec.Opens p xs
dec_step (Dec-F.Fix p r d xs) = dec.Fix p r d xs
dec_step (Dec-F.Nonfix p xs) = dec.Nonfix p xs
dec_step (Dec-F.Abs p binds tys ds) = hidden_datas p binds tys ds

-- an atomic expression, a clause, a declaration, an expression and a rule without derived forms
abbrev pub derived_at_exp : AtExp → BareAtExp
derived_at_exp = fold-AtExp BareAtExp BareClause BareDec BareExp BareRule at_exp_step clause_step dec_step exp_step rule_step

abbrev pub derived_clause : Clause → BareClause
derived_clause = fold-Clause BareAtExp BareClause BareDec BareExp BareRule at_exp_step clause_step dec_step exp_step rule_step

abbrev pub derived_dec : Dec → BareDec
derived_dec = fold-Dec BareAtExp BareClause BareDec BareExp BareRule at_exp_step clause_step dec_step exp_step rule_step

abbrev pub derived_exp : Exp → BareExp
derived_exp = fold-Exp BareAtExp BareClause BareDec BareExp BareRule at_exp_step clause_step dec_step exp_step rule_step

abbrev pub derived_rule : Rule → BareRule
derived_rule = fold-Rule BareAtExp BareClause BareDec BareExp BareRule at_exp_step clause_step dec_step exp_step rule_step

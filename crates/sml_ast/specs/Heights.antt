-- Heights: the number of nodes on the longest way down. A row is part of the node that holds it, however wide it is.
use Rattle.std.specs.Prelude.{ℕ, suc, max, List, [], ◌∷◌, map, Option, Some, None}
use Rattle.tl_text.specs.Pairs.{seconds}
use Rattle.tl_text.specs.declared.place.Place.{Place}
use Rattle.tl_text.specs.declared.name.Name.{Name}
use Rattle.sml_ast.specs.declared.ty.Ty.{Ty, fold-Ty}
use Rattle.sml_ast.specs.declared.ty.Ty.TheOpen.{Ty-F}
use Rattle.sml_ast.specs.declared.pat.AtPat.{AtPat, fold-AtPat}
use Rattle.sml_ast.specs.declared.pat.AtPat.TheOpen.{AtPat-F, PField-F, Pat-F}
use Rattle.sml_ast.specs.declared.pat.PField.{PField, fold-PField}
use Rattle.sml_ast.specs.declared.pat.Pat.{Pat, fold-Pat}
use Rattle.sml_ast.specs.declared.data.DatBind.{DatBind}
use Rattle.sml_ast.specs.declared.data.DatBind.TheVariants as dat_bind
use Rattle.sml_ast.specs.declared.data.DatDesc.{DatDesc}
use Rattle.sml_ast.specs.declared.data.DatDesc.TheVariants as dat_desc
use Rattle.sml_ast.specs.declared.data.ExBind.{ExBind}
use Rattle.sml_ast.specs.declared.data.ExBind.TheVariants as ex_bind
use Rattle.sml_ast.specs.declared.exp.AtExp.{AtExp, fold-AtExp}
use Rattle.sml_ast.specs.declared.exp.AtExp.TheOpen.{AtExp-F, Clause-F, Dec-F, Exp-F, Rule-F}
use Rattle.sml_ast.specs.declared.exp.Clause.{Clause, fold-Clause}
use Rattle.sml_ast.specs.declared.exp.Dec.{Dec, fold-Dec}
use Rattle.sml_ast.specs.declared.exp.Exp.{Exp, fold-Exp}
use Rattle.sml_ast.specs.declared.exp.Rule.{Rule, fold-Rule}
use Rattle.sml_ast.specs.declared.sig.SigExp.{SigExp, fold-SigExp}
use Rattle.sml_ast.specs.declared.sig.SigExp.TheOpen.{SigExp-F, Spec-F}
use Rattle.sml_ast.specs.declared.sig.Spec.{Spec, fold-Spec}
use Rattle.sml_ast.specs.declared.sig.Ascribe.{Ascribe}
use Rattle.sml_ast.specs.declared.sig.Ascribe.TheVariants as ascribe
use Rattle.sml_ast.specs.declared.program.StrBind.{StrBind, fold-StrBind}
use Rattle.sml_ast.specs.declared.program.StrBind.TheOpen.{StrBind-F, StrDec-F, StrExp-F}
use Rattle.sml_ast.specs.declared.program.StrDec.{StrDec, fold-StrDec}
use Rattle.sml_ast.specs.declared.program.StrExp.{StrExp, fold-StrExp}
use Rattle.sml_ast.specs.declared.program.SigBind.{SigBind}
use Rattle.sml_ast.specs.declared.program.SigBind.TheVariants as sig_bind
use Rattle.sml_ast.specs.declared.program.FunBind.{FunBind}
use Rattle.sml_ast.specs.declared.program.FunBind.TheVariants as fun_bind
use Rattle.sml_ast.specs.declared.program.Top.{Top}
use Rattle.sml_ast.specs.declared.program.Top.TheVariants as top
use Rattle.sml_ast.specs.declared.program.Program.{Program}
use Rattle.sml_ast.specs.declared.program.Program.TheVariants as program

-- the greatest of a row of heights, 0 of none
abbrev pub greatest : List ℕ → ℕ
greatest [] = 0
greatest (n ∷ ns) = max n (greatest ns)

-- the height of a part that may be missing
abbrev pub optional : Option ℕ → ℕ
optional None = 0
optional (Some n) = n

-- one level of a type, with the height of each part in its place
abbrev pub ty_step : Ty-F ℕ → ℕ
ty_step (Ty-F.Tyvar p v) = 1
ty_step (Ty-F.TFields p fields) = suc (greatest (seconds fields))
ty_step (Ty-F.TCon p ts c) = suc (greatest ts)
ty_step (Ty-F.TTuple p t ts) = suc (max t (greatest ts))
ty_step (Ty-F.Arrow p t u) = suc (max t u)
ty_step (Ty-F.TParen p t) = suc t

-- the height of a type
abbrev pub ty_height : Ty → ℕ
ty_height = fold-Ty ℕ ty_step

-- the height of a type that may be missing
abbrev pub opt_ty_height : Option Ty → ℕ
opt_ty_height None = 0
opt_ty_height (Some t) = ty_height t

-- one level of an atomic pattern, of a field and of a pattern
abbrev pub at_pat_step : AtPat-F ℕ ℕ ℕ → ℕ
at_pat_step (AtPat-F.Any p) = 1
at_pat_step (AtPat-F.PLit p l) = 1
at_pat_step (AtPat-F.PId p o x) = 1
at_pat_step (AtPat-F.PFields p fields) = suc (greatest fields)
at_pat_step (AtPat-F.PUnit p) = 1
at_pat_step (AtPat-F.PTuple p q qs) = suc (max q (greatest qs))
at_pat_step (AtPat-F.PItems p qs) = suc (greatest qs)
at_pat_step (AtPat-F.PParen p q) = suc q

abbrev pub field_step : PField-F ℕ ℕ ℕ → ℕ
field_step (PField-F.Rest p) = 1
field_step (PField-F.Named p l q) = suc q
field_step (PField-F.Pun p x t q) = suc (max (opt_ty_height t) (optional q))

abbrev pub pat_step : Pat-F ℕ ℕ ℕ → ℕ
pat_step (Pat-F.PAtom p a) = suc a
pat_step (Pat-F.PCon p o c a) = suc a
pat_step (Pat-F.PInfix p q v r) = suc (max q r)
pat_step (Pat-F.PTyped p q t) = suc (max q (ty_height t))
pat_step (Pat-F.Layer p o x t q) = suc (max (opt_ty_height t) q)

-- the height of an atomic pattern, of a field and of a pattern
abbrev pub at_pat_height : AtPat → ℕ
at_pat_height = fold-AtPat ℕ ℕ ℕ at_pat_step field_step pat_step

abbrev pub field_height : PField → ℕ
field_height = fold-PField ℕ ℕ ℕ at_pat_step field_step pat_step

abbrev pub pat_height : Pat → ℕ
pat_height = fold-Pat ℕ ℕ ℕ at_pat_step field_step pat_step

-- the height of a binding of a type, which is no node itself
abbrev pub ty_bind_height : List (Place × Name) × (Place × Name) × Ty → ℕ
ty_bind_height b = ty_height b.2

-- the height of a binding of a datatype, of a description and of a binding of an exception
abbrev pub dat_bind_height : DatBind → ℕ
dat_bind_height (dat_bind.Data p vs t cons) = suc (greatest (map (λ c. opt_ty_height c.2) cons))

abbrev pub dat_desc_height : DatDesc → ℕ
dat_desc_height (dat_desc.Desc p vs t cons) = suc (greatest (map (λ c. opt_ty_height c.1) cons))

abbrev pub ex_bind_height : ExBind → ℕ
ex_bind_height (ex_bind.NewExn p o x t) = suc (opt_ty_height t)
ex_bind_height (ex_bind.SameExn p o x q y) = 1

-- one level of an atomic expression, of an expression, of a rule, of a declaration and of a clause
abbrev pub at_exp_step : AtExp-F ℕ ℕ ℕ ℕ ℕ → ℕ
at_exp_step (AtExp-F.Lit p l) = 1
at_exp_step (AtExp-F.Id p o x) = 1
at_exp_step (AtExp-F.Fields p fields) = suc (greatest (seconds fields))
at_exp_step (AtExp-F.Pick p l) = 1
at_exp_step (AtExp-F.Unit p) = 1
at_exp_step (AtExp-F.Tuple p e es) = suc (max e (greatest es))
at_exp_step (AtExp-F.Items p es) = suc (greatest es)
at_exp_step (AtExp-F.Seq p e es) = suc (max e (greatest es))
at_exp_step (AtExp-F.Let p ds es) = suc (max (greatest ds) (greatest es))
at_exp_step (AtExp-F.Paren p e) = suc e

abbrev pub exp_step : Exp-F ℕ ℕ ℕ ℕ ℕ → ℕ
exp_step (Exp-F.Apply p es) = suc (greatest es)
exp_step (Exp-F.Infix p e v f) = suc (max e f)
exp_step (Exp-F.Typed p e t) = suc (max e (ty_height t))
exp_step (Exp-F.AndAlso p e f) = suc (max e f)
exp_step (Exp-F.OrElse p e f) = suc (max e f)
exp_step (Exp-F.Handle p e rules) = suc (max e (greatest rules))
exp_step (Exp-F.Raise p e) = suc e
exp_step (Exp-F.If p e f g) = suc (max e (max f g))
exp_step (Exp-F.While p e f) = suc (max e f)
exp_step (Exp-F.Case p e rules) = suc (max e (greatest rules))
exp_step (Exp-F.Fn p rules) = suc (greatest rules)

abbrev pub rule_step : Rule-F ℕ ℕ ℕ ℕ ℕ → ℕ
rule_step (Rule-F.Arm p q e) = suc (max (pat_height q) e)

-- the greatest height of a row of bindings of values
abbrev pub bindings_height : List (Pat × ℕ) → ℕ
bindings_height binds = greatest (map (λ b. max (pat_height b.0) b.1) binds)

abbrev pub dec_step : Dec-F ℕ ℕ ℕ ℕ ℕ → ℕ
dec_step (Dec-F.Vals p vs r binds) = suc (bindings_height binds)
dec_step (Dec-F.Funs p vs functions) = suc (greatest (map greatest functions))
dec_step (Dec-F.Types p binds) = suc (greatest (map ty_bind_height binds))
dec_step (Dec-F.Datas p binds tys) = suc (max (greatest (map dat_bind_height binds)) (greatest (map ty_bind_height tys)))
dec_step (Dec-F.Copy p t u) = 1
dec_step (Dec-F.Exns p binds) = suc (greatest (map ex_bind_height binds))
dec_step (Dec-F.Local p ds es) = suc (max (greatest ds) (greatest es))
dec_step (Dec-F.Opens p xs) = 1
dec_step (Dec-F.Fix p r d xs) = 1
dec_step (Dec-F.Nonfix p xs) = 1
dec_step (Dec-F.Abs p binds tys ds) = suc (max (greatest (map dat_bind_height binds)) (max (greatest (map ty_bind_height tys)) (greatest ds)))

abbrev pub clause_step : Clause-F ℕ ℕ ℕ ℕ ℕ → ℕ
clause_step (Clause-F.Prefix p o f args t e) = suc (max (greatest (map at_pat_height args)) (max (opt_ty_height t) e))
clause_step (Clause-F.Mid p a v b t e) = suc (max (max (at_pat_height a) (at_pat_height b)) (max (opt_ty_height t) e))
clause_step (Clause-F.MidMore p a v b args t e) = suc (max (max (at_pat_height a) (at_pat_height b)) (max (greatest (map at_pat_height args)) (max (opt_ty_height t) e)))

-- the height of an atomic expression, of an expression, of a rule, of a declaration and of a clause
abbrev pub at_exp_height : AtExp → ℕ
at_exp_height = fold-AtExp ℕ ℕ ℕ ℕ ℕ at_exp_step clause_step dec_step exp_step rule_step

abbrev pub clause_height : Clause → ℕ
clause_height = fold-Clause ℕ ℕ ℕ ℕ ℕ at_exp_step clause_step dec_step exp_step rule_step

abbrev pub dec_height : Dec → ℕ
dec_height = fold-Dec ℕ ℕ ℕ ℕ ℕ at_exp_step clause_step dec_step exp_step rule_step

abbrev pub exp_height : Exp → ℕ
exp_height = fold-Exp ℕ ℕ ℕ ℕ ℕ at_exp_step clause_step dec_step exp_step rule_step

abbrev pub rule_height : Rule → ℕ
rule_height = fold-Rule ℕ ℕ ℕ ℕ ℕ at_exp_step clause_step dec_step exp_step rule_step

-- one level of a signature expression and of a specification
abbrev pub sig_step : SigExp-F ℕ ℕ → ℕ
sig_step (SigExp-F.Specs p specs) = suc (greatest specs)
sig_step (SigExp-F.SigAt p x) = 1
sig_step (SigExp-F.Real p q s vs c t) = suc (max s (ty_height t))

abbrev pub spec_step : Spec-F ℕ ℕ → ℕ
spec_step (Spec-F.ValSpec p xs) = suc (greatest (map (λ x. ty_height x.1) xs))
spec_step (Spec-F.TySpec p xs) = 1
spec_step (Spec-F.EqSpec p xs) = 1
spec_step (Spec-F.SynSpec p binds) = suc (greatest (map ty_bind_height binds))
spec_step (Spec-F.DataSpec p descs) = suc (greatest (map dat_desc_height descs))
spec_step (Spec-F.CopySpec p t u) = 1
spec_step (Spec-F.ExnSpec p xs) = suc (greatest (map (λ x. opt_ty_height x.1) xs))
spec_step (Spec-F.StrSpec p xs) = suc (greatest (seconds xs))
spec_step (Spec-F.Incl p s) = suc s
spec_step (Spec-F.Incls p xs) = 1
spec_step (Spec-F.ShareTy p x xs) = 1
spec_step (Spec-F.ShareStr p x xs) = 1

-- the height of a signature expression, of a specification and of an ascription that may be missing
abbrev pub sig_height : SigExp → ℕ
sig_height = fold-SigExp ℕ ℕ sig_step spec_step

abbrev pub spec_height : Spec → ℕ
spec_height = fold-Spec ℕ ℕ sig_step spec_step

abbrev pub ascribe_height : Ascribe → ℕ
ascribe_height (ascribe.Clear p s) = suc (sig_height s)
ascribe_height (ascribe.Opaque p s) = suc (sig_height s)

abbrev pub opt_ascribe_height : Option Ascribe → ℕ
opt_ascribe_height None = 0
opt_ascribe_height (Some a) = ascribe_height a

-- one level of a binding of a structure, of a declaration at structure level and of a structure expression
abbrev pub str_bind_step : StrBind-F ℕ ℕ ℕ → ℕ
str_bind_step (StrBind-F.Bind p x a e) = suc (max (opt_ascribe_height a) e)

abbrev pub str_dec_step : StrDec-F ℕ ℕ ℕ → ℕ
str_dec_step (StrDec-F.Core p d) = suc (dec_height d)
str_dec_step (StrDec-F.Structs p binds) = suc (greatest binds)
str_dec_step (StrDec-F.LocalStr p ds es) = suc (max (greatest ds) (greatest es))

abbrev pub str_exp_step : StrExp-F ℕ ℕ ℕ → ℕ
str_exp_step (StrExp-F.Body p ds) = suc (greatest ds)
str_exp_step (StrExp-F.At p x) = 1
str_exp_step (StrExp-F.Seal p e a) = suc (max e (ascribe_height a))
str_exp_step (StrExp-F.Call p f e) = suc e
str_exp_step (StrExp-F.CallBody p f ds) = suc (greatest ds)
str_exp_step (StrExp-F.LetStr p ds e) = suc (max (greatest ds) e)

-- the height of a binding of a structure, of a declaration at structure level and of a structure expression
abbrev pub str_bind_height : StrBind → ℕ
str_bind_height = fold-StrBind ℕ ℕ ℕ str_bind_step str_dec_step str_exp_step

abbrev pub str_dec_height : StrDec → ℕ
str_dec_height = fold-StrDec ℕ ℕ ℕ str_bind_step str_dec_step str_exp_step

abbrev pub str_exp_height : StrExp → ℕ
str_exp_height = fold-StrExp ℕ ℕ ℕ str_bind_step str_dec_step str_exp_step

-- the height of a binding of a signature and of a functor, of a top-level declaration and of a source
abbrev pub sig_bind_height : SigBind → ℕ
sig_bind_height (sig_bind.SigAs p x s) = suc (sig_height s)

abbrev pub fun_bind_height : FunBind → ℕ
fun_bind_height (fun_bind.FunOf p f x s a e) = suc (max (sig_height s) (max (opt_ascribe_height a) (str_exp_height e)))
fun_bind_height (fun_bind.FunSpecs p f specs a e) = suc (max (greatest (map spec_height specs)) (max (opt_ascribe_height a) (str_exp_height e)))

abbrev pub top_height : Top → ℕ
top_height (top.Strs p d) = suc (str_dec_height d)
top_height (top.Sigs p binds) = suc (greatest (map sig_bind_height binds))
top_height (top.Funs p binds) = suc (greatest (map fun_bind_height binds))
top_height (top.Run p e) = suc (exp_height e)

abbrev pub program_height : Program → ℕ
program_height (program.Tops p tops) = suc (greatest (map top_height tops))

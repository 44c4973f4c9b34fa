-- What a fold gives at an expression, a rule, a declaration or a clause of several parts.
use Rattle.std.proofs.Common.{◌≡◌, Bool, List, map, Option}
use Rattle.tl_text.specs.Pairs.{map_second}
use Rattle.tl_text.specs.declared.place.Place.{Place}
use Rattle.tl_text.specs.declared.name.Name.{Name}
use Rattle.sml_ast.specs.declared.name.Lab.{Lab}
use Rattle.sml_ast.specs.declared.ty.Ty.{Ty}
use Rattle.sml_ast.specs.declared.data.DatBind.{DatBind}
use Rattle.sml_ast.specs.declared.pat.AtPat.{AtPat}
use Rattle.sml_ast.specs.declared.pat.Pat.{Pat}
use Rattle.sml_ast.specs.declared.exp.AtExp.{fold-AtExp}
use Rattle.sml_ast.specs.declared.exp.AtExp.TheVariants as at_exp
use Rattle.sml_ast.specs.declared.exp.AtExp.TheOpen.{AtExp-F, Clause-F, Dec-F, Exp-F, Rule-F}
use Rattle.sml_ast.specs.declared.exp.AtExp.TheFolds.{fold-roll-AtExp, fold-roll-Clause, fold-roll-Dec, fold-roll-Exp, fold-roll-Rule}
use Rattle.sml_ast.specs.declared.exp.Clause.{Clause}
use Rattle.sml_ast.specs.declared.exp.Clause.TheVariants as clause
use Rattle.sml_ast.specs.declared.exp.Dec.{Dec}
use Rattle.sml_ast.specs.declared.exp.Dec.TheVariants as dec
use Rattle.sml_ast.specs.declared.exp.Exp.{Exp}
use Rattle.sml_ast.specs.declared.exp.Exp.TheVariants as exp
use Rattle.sml_ast.specs.declared.exp.Rule.{Rule}
use Rattle.sml_ast.specs.declared.exp.Rule.TheVariants as rule
use Rattle.sml_restrict.specs.Expressions.{Facts, ClauseFacts, at_exp_step, clause_step, dec_step, exp_step, rule_step, at_exp_facts, clause_facts, dec_facts, exp_facts, rule_facts}

pub at_exp_fields : (p : Place) (fields : List ((Place × Lab) × Exp)) → at_exp_facts (at_exp.Fields p fields) ≡ at_exp_step (AtExp-F.Fields p (map_second exp_facts fields))
unfolding Rattle.sml_ast.specs.declared.exp.AtExp.TheViews.roll-AtExp denote.Hole.Carrier.roll
at_exp_fields p fields = fold-roll-AtExp Facts ClauseFacts Facts Facts Facts at_exp_step clause_step dec_step exp_step rule_step (AtExp-F.Fields p fields)

pub at_exp_tuple : (p : Place) (e : Exp) (es : List Exp) → at_exp_facts (at_exp.Tuple p e es) ≡ at_exp_step (AtExp-F.Tuple p (exp_facts e) (map exp_facts es))
unfolding Rattle.sml_ast.specs.declared.exp.AtExp.TheViews.roll-AtExp denote.Hole.Carrier.roll
at_exp_tuple p e es = fold-roll-AtExp Facts ClauseFacts Facts Facts Facts at_exp_step clause_step dec_step exp_step rule_step (AtExp-F.Tuple p e es)

pub at_exp_seq : (p : Place) (e : Exp) (es : List Exp) → at_exp_facts (at_exp.Seq p e es) ≡ at_exp_step (AtExp-F.Seq p (exp_facts e) (map exp_facts es))
unfolding Rattle.sml_ast.specs.declared.exp.AtExp.TheViews.roll-AtExp denote.Hole.Carrier.roll
at_exp_seq p e es = fold-roll-AtExp Facts ClauseFacts Facts Facts Facts at_exp_step clause_step dec_step exp_step rule_step (AtExp-F.Seq p e es)

pub at_exp_let : (p : Place) (ds : List Dec) (es : List Exp) → at_exp_facts (at_exp.Let p ds es) ≡ at_exp_step (AtExp-F.Let p (map dec_facts ds) (map exp_facts es))
unfolding Rattle.sml_ast.specs.declared.exp.AtExp.TheViews.roll-AtExp denote.Hole.Carrier.roll
at_exp_let p ds es = fold-roll-AtExp Facts ClauseFacts Facts Facts Facts at_exp_step clause_step dec_step exp_step rule_step (AtExp-F.Let p ds es)

pub exp_infix : (p : Place) (e : Exp) (v : Place × Name) (f : Exp) → exp_facts (exp.Infix p e v f) ≡ exp_step (Exp-F.Infix p (exp_facts e) v (exp_facts f))
unfolding Rattle.sml_ast.specs.declared.exp.AtExp.TheViews.roll-Exp denote.Hole.Carrier.roll
exp_infix p e v f = fold-roll-Exp Facts ClauseFacts Facts Facts Facts at_exp_step clause_step dec_step exp_step rule_step (Exp-F.Infix p e v f)

pub exp_typed : (p : Place) (e : Exp) (t : Ty) → exp_facts (exp.Typed p e t) ≡ exp_step (Exp-F.Typed p (exp_facts e) t)
unfolding Rattle.sml_ast.specs.declared.exp.AtExp.TheViews.roll-Exp denote.Hole.Carrier.roll
exp_typed p e t = fold-roll-Exp Facts ClauseFacts Facts Facts Facts at_exp_step clause_step dec_step exp_step rule_step (Exp-F.Typed p e t)

pub exp_and : (p : Place) (e f : Exp) → exp_facts (exp.AndAlso p e f) ≡ exp_step (Exp-F.AndAlso p (exp_facts e) (exp_facts f))
unfolding Rattle.sml_ast.specs.declared.exp.AtExp.TheViews.roll-Exp denote.Hole.Carrier.roll
exp_and p e f = fold-roll-Exp Facts ClauseFacts Facts Facts Facts at_exp_step clause_step dec_step exp_step rule_step (Exp-F.AndAlso p e f)

pub exp_or : (p : Place) (e f : Exp) → exp_facts (exp.OrElse p e f) ≡ exp_step (Exp-F.OrElse p (exp_facts e) (exp_facts f))
unfolding Rattle.sml_ast.specs.declared.exp.AtExp.TheViews.roll-Exp denote.Hole.Carrier.roll
exp_or p e f = fold-roll-Exp Facts ClauseFacts Facts Facts Facts at_exp_step clause_step dec_step exp_step rule_step (Exp-F.OrElse p e f)

pub exp_handle : (p : Place) (e : Exp) (rules : List Rule) → exp_facts (exp.Handle p e rules) ≡ exp_step (Exp-F.Handle p (exp_facts e) (map rule_facts rules))
unfolding Rattle.sml_ast.specs.declared.exp.AtExp.TheViews.roll-Exp denote.Hole.Carrier.roll
exp_handle p e rules = fold-roll-Exp Facts ClauseFacts Facts Facts Facts at_exp_step clause_step dec_step exp_step rule_step (Exp-F.Handle p e rules)

pub exp_if : (p : Place) (e f g : Exp) → exp_facts (exp.If p e f g) ≡ exp_step (Exp-F.If p (exp_facts e) (exp_facts f) (exp_facts g))
unfolding Rattle.sml_ast.specs.declared.exp.AtExp.TheViews.roll-Exp denote.Hole.Carrier.roll
exp_if p e f g = fold-roll-Exp Facts ClauseFacts Facts Facts Facts at_exp_step clause_step dec_step exp_step rule_step (Exp-F.If p e f g)

pub exp_while : (p : Place) (e f : Exp) → exp_facts (exp.While p e f) ≡ exp_step (Exp-F.While p (exp_facts e) (exp_facts f))
unfolding Rattle.sml_ast.specs.declared.exp.AtExp.TheViews.roll-Exp denote.Hole.Carrier.roll
exp_while p e f = fold-roll-Exp Facts ClauseFacts Facts Facts Facts at_exp_step clause_step dec_step exp_step rule_step (Exp-F.While p e f)

pub exp_case : (p : Place) (e : Exp) (rules : List Rule) → exp_facts (exp.Case p e rules) ≡ exp_step (Exp-F.Case p (exp_facts e) (map rule_facts rules))
unfolding Rattle.sml_ast.specs.declared.exp.AtExp.TheViews.roll-Exp denote.Hole.Carrier.roll
exp_case p e rules = fold-roll-Exp Facts ClauseFacts Facts Facts Facts at_exp_step clause_step dec_step exp_step rule_step (Exp-F.Case p e rules)

pub rule_arm : (p : Place) (q : Pat) (e : Exp) → rule_facts (rule.Arm p q e) ≡ rule_step (Rule-F.Arm p q (exp_facts e))
unfolding Rattle.sml_ast.specs.declared.exp.AtExp.TheViews.roll-Rule denote.Hole.Carrier.roll
rule_arm p q e = fold-roll-Rule Facts ClauseFacts Facts Facts Facts at_exp_step clause_step dec_step exp_step rule_step (Rule-F.Arm p q e)

pub dec_vals : (p : Place) (vs : List (Place × Name)) (r : Bool) (binds : List (Pat × Exp)) → dec_facts (dec.Vals p vs r binds) ≡ dec_step (Dec-F.Vals p vs r (map_second exp_facts binds))
unfolding Rattle.sml_ast.specs.declared.exp.AtExp.TheViews.roll-Dec denote.Hole.Carrier.roll
dec_vals p vs r binds = fold-roll-Dec Facts ClauseFacts Facts Facts Facts at_exp_step clause_step dec_step exp_step rule_step (Dec-F.Vals p vs r binds)

pub dec_funs : (p : Place) (vs : List (Place × Name)) (fs : List (List Clause)) → dec_facts (dec.Funs p vs fs) ≡ dec_step (Dec-F.Funs p vs (map (map clause_facts) fs))
unfolding Rattle.sml_ast.specs.declared.exp.AtExp.TheViews.roll-Dec denote.Hole.Carrier.roll
dec_funs p vs fs = fold-roll-Dec Facts ClauseFacts Facts Facts Facts at_exp_step clause_step dec_step exp_step rule_step (Dec-F.Funs p vs fs)

pub dec_local : (p : Place) (ds es : List Dec) → dec_facts (dec.Local p ds es) ≡ dec_step (Dec-F.Local p (map dec_facts ds) (map dec_facts es))
unfolding Rattle.sml_ast.specs.declared.exp.AtExp.TheViews.roll-Dec denote.Hole.Carrier.roll
dec_local p ds es = fold-roll-Dec Facts ClauseFacts Facts Facts Facts at_exp_step clause_step dec_step exp_step rule_step (Dec-F.Local p ds es)

pub dec_abs : (p : Place) (binds : List DatBind) (tys : List (List (Place × Name) × (Place × Name) × Ty)) (ds : List Dec) → dec_facts (dec.Abs p binds tys ds) ≡ dec_step (Dec-F.Abs p binds tys (map dec_facts ds))
unfolding Rattle.sml_ast.specs.declared.exp.AtExp.TheViews.roll-Dec denote.Hole.Carrier.roll
dec_abs p binds tys ds = fold-roll-Dec Facts ClauseFacts Facts Facts Facts at_exp_step clause_step dec_step exp_step rule_step (Dec-F.Abs p binds tys ds)

pub clause_prefix : (p : Place) (o : Bool) (f : Place × Name) (args : List AtPat) (t : Option Ty) (e : Exp) → clause_facts (clause.Prefix p o f args t e) ≡ clause_step (Clause-F.Prefix p o f args t (exp_facts e))
unfolding Rattle.sml_ast.specs.declared.exp.AtExp.TheViews.roll-Clause denote.Hole.Carrier.roll
clause_prefix p o f args t e = fold-roll-Clause Facts ClauseFacts Facts Facts Facts at_exp_step clause_step dec_step exp_step rule_step (Clause-F.Prefix p o f args t e)

pub clause_mid : (p : Place) (a : AtPat) (f : Place × Name) (b : AtPat) (t : Option Ty) (e : Exp) → clause_facts (clause.Mid p a f b t e) ≡ clause_step (Clause-F.Mid p a f b t (exp_facts e))
unfolding Rattle.sml_ast.specs.declared.exp.AtExp.TheViews.roll-Clause denote.Hole.Carrier.roll
clause_mid p a f b t e = fold-roll-Clause Facts ClauseFacts Facts Facts Facts at_exp_step clause_step dec_step exp_step rule_step (Clause-F.Mid p a f b t e)

pub clause_more : (p : Place) (a : AtPat) (f : Place × Name) (b : AtPat) (args : List AtPat) (t : Option Ty) (e : Exp) → clause_facts (clause.MidMore p a f b args t e) ≡ clause_step (Clause-F.MidMore p a f b args t (exp_facts e))
unfolding Rattle.sml_ast.specs.declared.exp.AtExp.TheViews.roll-Clause denote.Hole.Carrier.roll
clause_more p a f b args t e = fold-roll-Clause Facts ClauseFacts Facts Facts Facts at_exp_step clause_step dec_step exp_step rule_step (Clause-F.MidMore p a f b args t e)

pub ruleset parts = (at_exp_fields, at_exp_tuple, at_exp_seq, at_exp_let, exp_infix, exp_typed, exp_and, exp_or, exp_handle, exp_if, exp_while, exp_case, rule_arm, dec_vals, dec_funs, dec_local, dec_abs, clause_prefix, clause_mid, clause_more)

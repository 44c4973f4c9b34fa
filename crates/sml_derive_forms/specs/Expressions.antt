-- What each derived form of expressions stands for (the Definition, appendix A, figure 15), where its parts have no derived
-- forms any more. What is new stands at p, the place of the form. A new name v is the name of the number 1: no identifier of
-- a source is spelled so, and between the place that binds it and those that use it nothing else binds it.
use Rattle.std.specs.Prelude.{false, true, List, [], ◌∷◌, codes}
use Rattle.tl_text.specs.declared.place.Place.{Place}
use Rattle.tl_text.specs.declared.name.Name.{Name}
use Rattle.sml_derive_core.specs.Names.{fresh_name}
use Rattle.sml_derive_core.specs.Patterns.{variable_pat}
use Rattle.sml_ast.specs.declared.name.Lab.{Lab}
use Rattle.sml_ast.specs.declared.bare_pat.BareAtPat.TheVariants as at_pat
use Rattle.sml_ast.specs.declared.bare_pat.BarePField.TheVariants as field
use Rattle.sml_ast.specs.declared.bare_pat.BarePat.{BarePat}
use Rattle.sml_ast.specs.declared.bare_pat.BarePat.TheVariants as pat
use Rattle.sml_ast.specs.declared.bare_exp.BareAtExp.{BareAtExp}
use Rattle.sml_ast.specs.declared.bare_exp.BareAtExp.TheVariants as at_exp
use Rattle.sml_ast.specs.declared.bare_exp.BareDec.{BareDec}
use Rattle.sml_ast.specs.declared.bare_exp.BareDec.TheVariants as dec
use Rattle.sml_ast.specs.declared.bare_exp.BareExp.{BareExp}
use Rattle.sml_ast.specs.declared.bare_exp.BareExp.TheVariants as exp
use Rattle.sml_ast.specs.declared.bare_exp.BareRule.{BareRule}
use Rattle.sml_ast.specs.declared.bare_exp.BareRule.TheVariants as rule

-- an atomic expression as an expression
abbrev pub atom : Place → BareAtExp → BareExp
atom p a = exp.Apply p (a ∷ [])

-- the identifier x
abbrev pub name_exp : Place → Name → BareAtExp
name_exp p x = at_exp.Id p false (p, x ∷ [])

-- fn q => e
abbrev pub lambda : Place → BarePat → BareExp → BareExp
lambda p q e = exp.Fn p (rule.Arm p q e ∷ [])

-- `()`: {}
abbrev pub unit : Place → BareAtExp
unit p = at_exp.Fields p []

-- {l = v, ...}
abbrev pub picked : Place → Place × Lab → BarePat
picked p l = pat.PAtom p (at_pat.PFields p (field.Named p l (variable_pat p (p, fresh_name 1)) ∷ field.Rest p ∷ []))

-- `#l`: fn {l = v, ...} => v
abbrev pub picker : Place → Place × Lab → BareExp
picker p l = lambda p (picked p l) (atom p (name_exp p (fresh_name 1)))

-- `case e of m`: (fn m) e
abbrev pub case_of : Place → BareExp → List BareRule → BareExp
case_of p e rules = exp.Apply p (at_exp.Paren p (exp.Fn p rules) ∷ at_exp.Paren p e ∷ [])

-- true, false
abbrev pub true_exp : Place → BareExp
true_exp p = atom p (name_exp p (codes "true"))

abbrev pub false_exp : Place → BareExp
false_exp p = atom p (name_exp p (codes "false"))

-- true => e, false => e
abbrev pub true_rule : Place → BareExp → BareRule
true_rule p e = rule.Arm p (variable_pat p (p, codes "true")) e

abbrev pub false_rule : Place → BareExp → BareRule
false_rule p e = rule.Arm p (variable_pat p (p, codes "false")) e

-- true => f | false => g
abbrev pub branches : Place → BareExp → BareExp → List BareRule
branches p f g = true_rule p f ∷ false_rule p g ∷ []

-- `if e then f else g`: case e of true => f | false => g
abbrev pub choice : Place → BareExp → BareExp → BareExp → BareExp
choice p e f g = case_of p e (branches p f g)

-- `e andalso f`: if e then f else false
abbrev pub both : Place → BareExp → BareExp → BareExp
both p e f = choice p e f (false_exp p)

-- `e orelse f`: if e then true else f
abbrev pub either : Place → BareExp → BareExp → BareExp
either p e f = choice p e (true_exp p) f

-- v ()
abbrev pub call : Place → BareExp
call p = exp.Apply p (name_exp p (fresh_name 1) ∷ unit p ∷ [])

-- (f; v ())
abbrev pub again : Place → BareExp → BareExp
again p f = atom p (at_exp.Seq p f (call p ∷ []))

-- if e then (f; v ()) else ()
abbrev pub round : Place → BareExp → BareExp → BareExp
round p e f = choice p e (again p f) (atom p (unit p))

-- fn () => e
abbrev pub suspended : Place → BareExp → BareExp
suspended p e = lambda p (pat.PAtom p (at_pat.PFields p [])) e

-- val rec v = e
abbrev pub recursive : Place → BareExp → BareDec
recursive p e = dec.Vals p [] true ((variable_pat p (p, fresh_name 1), e) ∷ [])

-- let d in v () end
abbrev pub started : Place → BareDec → BareExp
started p d = atom p (at_exp.Let p (d ∷ []) (call p))

-- `while e do f`: let val rec v = fn () => if e then (f; v ()) else () in v () end
abbrev pub repeat : Place → BareExp → BareExp → BareExp
repeat p e f = started p (recursive p (suspended p (round p e f)))

-- `in e; f end`: the sequence (e; f). One expression stays as it is. The grammar has at least one.
abbrev pub body : Place → List BareExp → BareExp
body p [] = atom p (unit p)
body p (e ∷ []) = e
body p (e ∷ (f ∷ fs)) = atom p (at_exp.Seq p e (f ∷ fs))

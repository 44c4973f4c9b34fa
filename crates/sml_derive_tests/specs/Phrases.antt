-- What the derived forms of expressions, patterns, types and declarations stand for (the Definition, appendix A, figures 15
-- to 17), as sources again: the right side of the table. New phrases stand at p, the place of the form. The new name v is
-- the name of the number 1, and w that of 2.
use Rattle.std.specs.Prelude.{false, true, List, [], ◌∷◌, codes}
use Rattle.tl_text.specs.declared.place.Place.{Place}
use Rattle.tl_text.specs.declared.name.Name.{Name}
use Rattle.sml_derive_core.specs.Names.{fresh_name}
use Rattle.sml_ast.specs.declared.name.Lab.{Lab}
use Rattle.sml_ast.specs.declared.name.Lab.TheVariants as lab
use Rattle.sml_ast.specs.declared.ty.Ty.{Ty}
use Rattle.sml_ast.specs.declared.ty.Ty.TheVariants as ty
use Rattle.sml_ast.specs.declared.pat.AtPat.{AtPat}
use Rattle.sml_ast.specs.declared.pat.AtPat.TheVariants as at_pat
use Rattle.sml_ast.specs.declared.pat.PField.TheVariants as field
use Rattle.sml_ast.specs.declared.pat.Pat.{Pat}
use Rattle.sml_ast.specs.declared.pat.Pat.TheVariants as pat
use Rattle.sml_ast.specs.declared.exp.AtExp.{AtExp}
use Rattle.sml_ast.specs.declared.exp.AtExp.TheVariants as at_exp
use Rattle.sml_ast.specs.declared.exp.Dec.TheVariants as dec
use Rattle.sml_ast.specs.declared.exp.Exp.{Exp}
use Rattle.sml_ast.specs.declared.exp.Exp.TheVariants as exp
use Rattle.sml_ast.specs.declared.exp.Rule.{Rule}
use Rattle.sml_ast.specs.declared.exp.Rule.TheVariants as rule

-- the identifier x as an expression, and as a pattern
abbrev pub atom : Place → AtExp → Exp
atom p a = exp.Apply p (a ∷ [])

abbrev pub name : Place → Name → AtExp
name p x = at_exp.Id p false (p, x ∷ [])

abbrev pub name_pat : Place → Name → Pat
name_pat p x = pat.PAtom p (at_pat.PId p false (p, x ∷ []))

-- `(e, f, g)`: {1 = e, 2 = f, 3 = g}
abbrev pub tuple : Place → Exp → Exp → Exp → AtExp
tuple p e f g = at_exp.Fields p (((p, lab.Num 1), e) ∷ ((p, lab.Num 2), f) ∷ ((p, lab.Num 3), g) ∷ [])

-- `#l`: fn {l = v, ...} => v
abbrev pub pick : Place → Place × Lab → AtExp
pick p l = at_exp.Paren p (exp.Fn p (rule.Arm p (pat.PAtom p (at_pat.PFields p (field.Named p l (name_pat p (fresh_name 1)) ∷ field.Rest p ∷ []))) (atom p (name p (fresh_name 1))) ∷ []))

-- `case e of m`: (fn m) e
abbrev pub case : Place → Exp → List Rule → Exp
case p e m = exp.Apply p (at_exp.Paren p (exp.Fn p m) ∷ at_exp.Paren p e ∷ [])

-- `if e then f else g`: case e of true => f | false => g
abbrev pub choice : Place → Exp → Exp → Exp → Exp
choice p e f g = exp.Case p e (rule.Arm p (name_pat p (codes "true")) f ∷ rule.Arm p (name_pat p (codes "false")) g ∷ [])

-- `e orelse f`: if e then true else f
abbrev pub either : Place → Exp → Exp → Exp
either p e f = exp.If p e (atom p (name p (codes "true"))) f

-- `e andalso f`: if e then f else false
abbrev pub both : Place → Exp → Exp → Exp
both p e f = exp.If p e f (atom p (name p (codes "false")))

-- `(e; f; g)`: case e of _ => case f of _ => g
abbrev pub seq : Place → Exp → Exp → Exp → AtExp
seq p e f g = at_exp.Paren p (exp.Case p e (rule.Arm p (pat.PAtom p (at_pat.Any p)) (exp.Case p f (rule.Arm p (pat.PAtom p (at_pat.Any p)) g ∷ [])) ∷ []))

-- `[e, f]`: e :: f :: nil
abbrev pub row : Place → Exp → Exp → AtExp
row p e f = at_exp.Paren p (exp.Infix p e (p, codes "::") (exp.Infix p f (p, codes "::") (atom p (name p (codes "nil")))))

-- v ()
abbrev pub call : Place → Exp
call p = exp.Apply p (name p (fresh_name 1) ∷ at_exp.Unit p ∷ [])

-- `while e do f`: let val rec v = fn () => if e then (f; v ()) else () in v () end
abbrev pub round : Place → Exp → Exp → Exp
round p e f = exp.If p e (atom p (at_exp.Seq p f (call p ∷ []))) (atom p (at_exp.Unit p))

abbrev pub repeat : Place → Exp → Exp → Exp
repeat p e f = atom p (at_exp.Let p (dec.Vals p [] true ((name_pat p (fresh_name 1), exp.Fn p (rule.Arm p (pat.PAtom p (at_pat.PUnit p)) (round p e f) ∷ [])) ∷ []) ∷ []) (call p ∷ []))

-- `(q, r, s)`: {1 = q, 2 = r, 3 = s}
abbrev pub tuple_pat : Place → Pat → Pat → Pat → AtPat
tuple_pat p q r s = at_pat.PFields p (field.Named p (p, lab.Num 1) q ∷ field.Named p (p, lab.Num 2) r ∷ field.Named p (p, lab.Num 3) s ∷ [])

-- `[q, r]`: q :: r :: nil
abbrev pub row_pat : Place → Pat → Pat → AtPat
row_pat p q r = at_pat.PParen p (pat.PInfix p q (p, codes "::") (pat.PInfix p r (p, codes "::") (name_pat p (codes "nil"))))

-- `t * u * w`: {1 : t, 2 : u, 3 : w}
abbrev pub tuple_ty : Place → Ty → Ty → Ty → Ty
tuple_ty p t u x = ty.TFields p (((p, lab.Num 1), t) ∷ ((p, lab.Num 2), u) ∷ ((p, lab.Num 3), x) ∷ [])

-- (fn m) (v, w), where the `fn` with the rules stands at n
abbrev pub matched : Place → Place → List Rule → Exp
matched p n m = exp.Apply p (at_exp.Paren p (exp.Fn n m) ∷ at_exp.Tuple p (atom p (name p (fresh_name 1))) (atom p (name p (fresh_name 2)) ∷ []) ∷ [])

-- fn v => fn w => (fn m) (v, w)
abbrev pub curried : Place → Place → List Rule → Exp
curried p n m = exp.Fn p (rule.Arm p (name_pat p (fresh_name 1)) (exp.Fn p (rule.Arm p (name_pat p (fresh_name 2)) (matched p n m) ∷ [])) ∷ [])

-- the pattern (a, b) of two atomic ones
abbrev pub pair : Place → AtPat → AtPat → AtPat
pair p a b = at_pat.PTuple p (pat.PAtom p a) (pat.PAtom p b ∷ [])

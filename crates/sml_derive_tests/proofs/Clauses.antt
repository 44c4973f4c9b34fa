-- Two clauses of two arguments, from their parts.
use Rattle.std.proofs.Common.{rules, ◌≡◌, Bool, true, List, [], ◌∷◌, None, Some, refl}
use Rattle.tl_text.specs.declared.place.Place.{Place}
use Rattle.tl_text.specs.declared.name.Name.{Name}
use Rattle.sml_ast.specs.Rows.{unrolled_dec, unrolled_exp, unrolled_pat}
use Rattle.sml_ast.specs.declared.ty.Ty.{Ty}
use Rattle.sml_ast.specs.declared.pat.AtPat.{AtPat}
use Rattle.sml_ast.specs.declared.pat.AtPat.TheVariants as at_pat
use Rattle.sml_ast.specs.declared.pat.Pat.TheVariants as pat
use Rattle.sml_ast.specs.declared.exp.Clause.TheVariants as clause
use Rattle.sml_ast.specs.declared.exp.Dec.TheVariants as dec
use Rattle.sml_ast.specs.declared.exp.Exp.{Exp}
use Rattle.sml_ast.specs.declared.exp.Exp.TheVariants as exp
use Rattle.sml_ast.specs.declared.exp.Rule.{Rule}
use Rattle.sml_ast.specs.declared.exp.Rule.TheVariants as rule
use Rattle.sml_ast.specs.declared.bare_pat.BareAtPat.TheVariants as bare_at_pat
use Rattle.sml_ast.specs.declared.bare_pat.BarePat.{BarePat}
use Rattle.sml_ast.specs.declared.bare_pat.BarePat.TheVariants as bare_pat
use Rattle.sml_ast.specs.declared.bare_exp.BareDec.{BareDec}
use Rattle.sml_ast.specs.declared.bare_exp.BareDec.TheVariants as bare_dec
use Rattle.sml_ast.specs.declared.bare_exp.BareExp.{BareExp}
use Rattle.sml_ast.specs.declared.bare_exp.BareExp.TheVariants as bare_exp
use Rattle.sml_ast.specs.declared.bare_exp.BareRule.TheVariants as bare_rule
use Rattle.sml_derive_core.specs.Names.{fresh_name}
use Rattle.sml_derive_core.specs.Patterns.{derived_at_pat, variable_pat}
use Rattle.sml_derive_core.specs.Types.{derived_ty}
use Rattle.sml_derive_forms.specs.Functions as form
use Rattle.sml_derive_exp.specs.Declarations.{derived_dec, derived_exp, derived_rule}
use Rattle.sml_derive_tests.specs.Phrases as row
use Rattle.sml_derive_tests.proofs.Folds

-- the two new names
abbrev two : Place → List (Place × Name)
two p = (p, fresh_name 1) ∷ (p, fresh_name 2) ∷ []

-- fn v => fn w => e
abbrev under : Place → BareExp → BareExp
under p e = bare_exp.Fn p (bare_rule.Arm p (variable_pat p (p, fresh_name 1)) (bare_exp.Fn p (bare_rule.Arm p (variable_pat p (p, fresh_name 2)) e ∷ [])) ∷ [])

-- the pattern (a, b)
abbrev pair : Place → AtPat → AtPat → BarePat
pair p a b = bare_pat.PAtom p (form.pair_pat p (derived_at_pat a) (derived_at_pat b))

-- val rec x = e
abbrev bound : Place → List (Place × Name) → BarePat → BareExp → BareDec
bound p vs x e = bare_dec.Vals p vs true ((x, e) ∷ [])

-- op f
abbrev named : Place → Bool → Place × Name → BarePat
named p o f = bare_pat.PAtom p (bare_at_pat.PId p o (f.0, f.1 ∷ []))

matched-derived : (p n : Place) (r s : Rule) → derived_exp (row.matched p n (r ∷ s ∷ [])) ≡ form.matched p n (two p) (derived_rule r ∷ derived_rule s ∷ [])
matched-derived p n r s = search (rules, Folds.expressions)

curried-derived : (p n : Place) (rs : List Rule) → derived_exp (row.curried p n rs) ≡ under p (derived_exp (row.matched p n rs))
curried-derived p n rs = search (rules, Folds.expressions)

under-unrolled : (p : Place) (e : BareExp) → unrolled_exp (under p e) ≡ under p (unrolled_exp e)
under-unrolled p e = search (rules, Folds.expressions)

curried-unrolled : (p : Place) (e : BareExp) → unrolled_exp (bare_exp.Curried p (two p) e) ≡ under p (unrolled_exp e)
curried-unrolled p e = search (rules, Folds.expressions)

rule-derived : (p i : Place) (a b : AtPat) (e : Exp) → derived_rule (rule.Arm i (pat.PAtom p (row.pair p a b)) e) ≡ bare_rule.Arm i (pair p a b) (derived_exp e)
rule-derived p i a b e = search (rules, Folds.expressions)

typed-derived : (p : Place) (e : Exp) (t : Ty) → derived_exp (exp.Typed p e t) ≡ bare_exp.Typed p (derived_exp e) (derived_ty t)
typed-derived p e t = search (rules, Folds.expressions)

vals-derived : (p : Place) (vs : List (Place × Name)) (o : Bool) (f : Place × Name) (e : Exp) → derived_dec (dec.Vals p vs true ((pat.PAtom p (at_pat.PId p o (f.0, f.1 ∷ [])), e) ∷ [])) ≡ bound p vs (named p o f) (derived_exp e)
vals-derived p vs o f e = search (rules, Folds.expressions)

vals-unrolled : (p : Place) (vs : List (Place × Name)) (x : BarePat) (e : BareExp) → unrolled_dec (bound p vs x e) ≡ bound p vs (unrolled_pat x) (unrolled_exp e)
vals-unrolled p vs x e = search (rules, Folds.expressions)

funs-derived : (p i j : Place) (vs : List (Place × Name)) (o u : Bool) (f g : Place × Name) (a b c d : AtPat) (t : Ty) (e h : Exp) → derived_dec (dec.Funs p vs ((clause.Prefix i o f (a ∷ b ∷ []) None e ∷ clause.Prefix j u g (c ∷ d ∷ []) (Some t) h ∷ []) ∷ [])) ≡ bound p vs (named p o f) (bare_exp.Curried p (two p) (form.matched p f.0 (two p) (bare_rule.Arm i (pair p a b) (derived_exp e) ∷ bare_rule.Arm j (pair p c d) (bare_exp.Typed p (derived_exp h) (derived_ty t)) ∷ [])))
funs-derived p i j vs o u f g a b c d t e h = search (rules, Folds.expressions)

-- the rules of the two clauses, and the function that they stand for
abbrev rules_of : Place → Place → Place → AtPat → AtPat → AtPat → AtPat → Ty → Exp → Exp → List Rule
rules_of p i j a b c d t e h = rule.Arm i (pat.PAtom p (row.pair p a b)) e ∷ rule.Arm j (pat.PAtom p (row.pair p c d)) (exp.Typed p h t) ∷ []

pub clauses_unfold : (p i j : Place) (vs : List (Place × Name)) (o u : Bool) (f g : Place × Name) (a b c d : AtPat) (t : Ty) (e h : Exp) → unrolled_dec (derived_dec (dec.Funs p vs ((clause.Prefix i o f (a ∷ b ∷ []) None e ∷ clause.Prefix j u g (c ∷ d ∷ []) (Some t) h ∷ []) ∷ []))) ≡ unrolled_dec (derived_dec (dec.Vals p vs true ((pat.PAtom p (at_pat.PId p o (f.0, f.1 ∷ [])), row.curried p f.0 (rules_of p i j a b c d t e h)) ∷ [])))
clauses_unfold p i j vs o u f g a b c d t e h =
    rw (
      funs-derived p i j vs o u f g a b c d t e h,
      vals-unrolled p vs (named p o f) (bare_exp.Curried p (two p) (form.matched p f.0 (two p) (bare_rule.Arm i (pair p a b) (derived_exp e) ∷ bare_rule.Arm j (pair p c d) (bare_exp.Typed p (derived_exp h) (derived_ty t)) ∷ []))),
      curried-unrolled p (form.matched p f.0 (two p) (bare_rule.Arm i (pair p a b) (derived_exp e) ∷ bare_rule.Arm j (pair p c d) (bare_exp.Typed p (derived_exp h) (derived_ty t)) ∷ [])),
      vals-derived p vs o f (row.curried p f.0 (rules_of p i j a b c d t e h)),
      vals-unrolled p vs (named p o f) (derived_exp (row.curried p f.0 (rules_of p i j a b c d t e h))),
      curried-derived p f.0 (rules_of p i j a b c d t e h),
      under-unrolled p (derived_exp (row.matched p f.0 (rules_of p i j a b c d t e h))),
      matched-derived p f.0 (rule.Arm i (pat.PAtom p (row.pair p a b)) e) (rule.Arm j (pat.PAtom p (row.pair p c d)) (exp.Typed p h t)),
      rule-derived p i a b e,
      rule-derived p j c d (exp.Typed p h t),
      typed-derived p h t,
    ) refl

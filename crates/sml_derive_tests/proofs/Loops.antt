-- A loop, from its parts: the call of its function, a round, and the declaration with the first call.
use Rattle.std.proofs.Common.{rules, ◌≡◌, true, [], ◌∷◌, refl, sym, ◌∙◌}
use Rattle.tl_text.specs.declared.place.Place.{Place}
use Rattle.sml_ast.specs.declared.exp.AtExp.TheVariants as at_exp
use Rattle.sml_ast.specs.declared.exp.Dec.TheVariants as dec
use Rattle.sml_ast.specs.declared.exp.Exp.{Exp}
use Rattle.sml_ast.specs.declared.exp.Exp.TheVariants as exp
use Rattle.sml_ast.specs.declared.exp.Rule.TheVariants as rule
use Rattle.sml_ast.specs.declared.pat.AtPat.TheVariants as at_pat
use Rattle.sml_ast.specs.declared.pat.Pat.TheVariants as pat
use Rattle.sml_ast.specs.declared.bare_exp.BareAtExp.TheVariants as bare_at_exp
use Rattle.sml_ast.specs.declared.bare_exp.BareExp.{BareExp}
use Rattle.sml_derive_core.specs.Names.{fresh_name}
use Rattle.sml_derive_forms.specs.Expressions as form
use Rattle.sml_derive_exp.specs.Declarations.{derived_exp}
use Rattle.sml_derive_tests.specs.Phrases as row
use Rattle.sml_derive_tests.proofs.Folds

-- let val rec v = fn () => r in k end
abbrev looped : Place → Exp → Exp → Exp
looped p r k = row.atom p (at_exp.Let p (dec.Vals p [] true ((row.name_pat p (fresh_name 1), exp.Fn p (rule.Arm p (pat.PAtom p (at_pat.PUnit p)) r ∷ [])) ∷ []) ∷ []) (k ∷ []))

abbrev bare_looped : Place → BareExp → BareExp → BareExp
bare_looped p r k = form.atom p (bare_at_exp.Let p (form.recursive p (form.suspended p r) ∷ []) k)

looped-derived : (p : Place) (r k : Exp) → derived_exp (looped p r k) ≡ bare_looped p (derived_exp r) (derived_exp k)
looped-derived p r k = search (rules, Folds.expressions)

call-derived : (p : Place) → derived_exp (row.call p) ≡ form.call p
call-derived p = search (rules, Folds.expressions)

again-derived : (p : Place) (f k : Exp) → derived_exp (row.atom p (at_exp.Seq p f (k ∷ []))) ≡ form.atom p (bare_at_exp.Seq p (derived_exp f) (derived_exp k ∷ []))
again-derived p f k = search (rules, Folds.expressions)

unit-derived : (p : Place) → derived_exp (row.atom p (at_exp.Unit p)) ≡ form.atom p (form.unit p)
unit-derived p = search (rules, Folds.expressions)

choice-derived : (p : Place) (e f g : Exp) → derived_exp (exp.If p e f g) ≡ form.choice p (derived_exp e) (derived_exp f) (derived_exp g)
choice-derived p e f g = search (rules, Folds.expressions)

round-derived : (p : Place) (e f : Exp) → derived_exp (row.round p e f) ≡ form.round p (derived_exp e) (derived_exp f)
round-derived p e f =
    choice-derived p e (row.atom p (at_exp.Seq p f (row.call p ∷ []))) (row.atom p (at_exp.Unit p))
    ∙ rw (again-derived p f (row.call p), call-derived p, unit-derived p) refl

while-derived : (p : Place) (e f : Exp) → derived_exp (exp.While p e f) ≡ form.repeat p (derived_exp e) (derived_exp f)
while-derived p e f = search (rules, Folds.expressions)

-- a loop and the source that it stands for
pub loop_unfolds : (p : Place) (e f : Exp) → derived_exp (exp.While p e f) ≡ derived_exp (row.repeat p e f)
loop_unfolds p e f =
    while-derived p e f
    ∙ sym (looped-derived p (row.round p e f) (row.call p) ∙ rw (round-derived p e f, call-derived p) refl)

-- Small units that do not type.
use Rattle.std.proofs.Common.{rules, ◌≡◌, ◌⊎◌, ◌≤◌, inl, inr, ℕ, true, false, Bool, List, [], ◌∷◌, ◌++◌, refl, subst, sym, ap, ◌∙◌, arith}
use Rattle.std.specs.Prelude.{IsTrue, Some, nat_lt, not, codes, length, ◌&&◌, ◌==◌}
use Rattle.tl_text.specs.Pairs.{seconds}
use Rattle.sml_static.specs.declared.ty.Ty.{Ty, fold-Ty}
use Rattle.sml_static.specs.declared.ty.Ty.TheOpen.{Ty-F}
use Rattle.sml_static.specs.declared.ty.Ty.TheVariants as ty
use Rattle.sml_static.specs.declared.ty.Ty.TheFolds
use Rattle.sml_static.specs.declared.ty.Label.{Label}
use Rattle.sml_static.specs.declared.ty.Scheme.{Scheme}
use Rattle.sml_static.specs.declared.ty.TyName.{TyName}
use Rattle.sml_static.specs.declared.ty.VarKind.{VarKind}
use Rattle.sml_static.specs.declared.ty.VarKind.TheVariants as kind
use Rattle.sml_static.specs.Schemes.{MayStandForAll}
use Rattle.sml_static.specs.WellFormed.{Numbering, is_well_formed}
use Rattle.sml_static.specs.Types.{applied}
use Rattle.sml_static.specs.Shapes.{datatype_of}
use Rattle.mid_ast.specs.Tree.{NoDicts, Exp, Local, Apply, NoExps, MoreExps, Dict, Base, At, Given, Cells, Parts}
use Rattle.mid_typing.specs.Types.{IsTypeAt, arrow, bool, int, is_arrow, is_known, is_type_at, kind_at, list, no_free, pair, ref, string, variables}
use Rattle.mid_typing.specs.Env.{Env, General}
use Rattle.mid_typing.specs.Basis.{basis}
use Rattle.mid_typing.specs.Patterns.{put_binders}
use Rattle.mid_typing.specs.Dicts.{DictFits, Setting, Stage}
use Rattle.mid_typing.specs.MidTypes.{AllHave, ExpHas, ItemBinds, UseOf}
use Rattle.mid_typing.specs.Examples.{a, both, number, text, general_cell, leaving, t, twice_parameter, wrong_true}

-- ---- a reference is not generalised

some_none : {A : Type 0} (x : A) (xs : List A) → (x ∷ xs) ≡ [] → ⊥
some_none x xs e = absurd (cc e)

made_type : datatype_of (arrow (list a) (ref (list a))) ≡ 7
made_type = search (rules, TheFolds.the_lemmas)

seven : (n : ℕ) → n ≡ 7 → IsTrue (not (n == 7)) → ⊥
seven n e h = absurd (cc (subst (λ m. IsTrue (not (m == 7))) e h))

pub cell_is_not_general : (s : Setting) (c : ℕ) (g : Env) (c2 : ℕ) (e : Env) → ItemBinds s c g general_cell c2 e → ⊥
cell_is_not_general s c g c2 e h = by h.1.0.5
  where
    by : ((kind.Plain ∷ []) ≡ []) ⊎ (IsTrue (not (datatype_of (arrow (list a) (ref (list a))) == 7)) × Unit {0}) → ⊥
    by (inl p) = some_none kind.Plain [] p
    by (inr p) = seven (datatype_of (arrow (list a) (ref (list a)))) made_type p.0

-- ---- a constructor at a wrong type

bool_stays : (args : List Ty) → applied args bool ≡ bool
bool_stays args = search (rules, TheFolds.the_lemmas)

int_number : datatype_of int ≡ 0
int_number = search (rules, TheFolds.the_lemmas)

bool_number : datatype_of bool ≡ 4
bool_number = search (rules, TheFolds.the_lemmas)

zero_four : ◌≡◌ {A = ℕ} 0 4 → ⊥
zero_four e = absurd (cc e)

int_bool : int ≡ bool → ⊥
int_bool e = zero_four (sym int_number ∙ (ap datatype_of e ∙ bool_number))

pub true_is_no_int : (s : Setting) (c : ℕ) (ks : List VarKind) (u : Ty) → ExpHas s c basis ks wrong_true u → ⊥
true_is_no_int s c ks u h =
    let k = h.3 in
    int_bool (k.2.2 ∙ (ap (λ (w : Scheme). applied k.2.0 w.body) k.1.1 ∙ bool_stays k.2.0))

-- ---- no dictionary is for a function type

arrow_is : (x y : Ty) → is_arrow (arrow x y) ≡ true
arrow_is x y = search (rules, TheFolds.the_lemmas)

con_is_not : (name : TyName) (args : List Ty) → is_arrow (ty.Con name args) ≡ false
con_is_not name args = search (rules, TheFolds.the_lemmas)

fields_are_not : (fields : List (Label × Ty)) → is_arrow (ty.Fields fields) ≡ false
fields_are_not fields = search (rules, TheFolds.the_lemmas)

bound_is_not : (i : ℕ) → is_arrow (ty.Bound i) ≡ false
bound_is_not i = search (rules, TheFolds.the_lemmas)

true_false : true ≡ false → ⊥
true_false e = absurd (cc e)

no_arrow : (x y u : Ty) → arrow x y ≡ u → is_arrow u ≡ false → ⊥
no_arrow x y u e f = true_false (sym (arrow_is x y) ∙ (ap is_arrow e ∙ f))

pub functions_have_none : (s : Stage) (g : Env) (ks : List VarKind) (d : Dict) (x y : Ty) → DictFits s g ks d (arrow x y) → ⊥
functions_have_none s g ks (Base n) x y h = no_arrow x y (ty.Con h.0 []) h.1 (con_is_not h.0 [])
functions_have_none s g ks (At q ds) x y h = no_arrow x y (ty.Con h.0 h.1) h.2 (con_is_not h.0 h.1)
functions_have_none s g ks (Given i) x y h = no_arrow x y (ty.Bound h.0) h.2 (bound_is_not h.0)
functions_have_none s g ks Cells x y h = no_arrow x y (ty.Con h.0 (h.1 ∷ [])) h.2 (con_is_not h.0 (h.1 ∷ []))
functions_have_none s g ks (Parts ds) x y h = no_arrow x y (ty.Fields h.0) h.1 (fields_are_not h.0)

-- ---- a type that is made inside a `let` does not leave it

t_known : (names : Numbering) (c n : ℕ) → is_type_at names c n t ≡ (is_well_formed names n t && (nat_lt 16 c && true))
t_known names c n = ap (λ b. is_well_formed names n t && b) (t_is c)
  where
    t_is : (c : ℕ) → is_known c t ≡ (nat_lt 16 c && true)
    t_is c = search (rules, TheFolds.the_lemmas)

second : (b d : Bool) → (b && (d && true)) ≡ true → d ≡ true
second true true e = refl
second true false e = absurd (cc e)
second false d e = absurd (cc e)

too_low : (c : ℕ) → c ≤ 16 → nat_lt 16 c ≡ true → ⊥
too_low c l e = grind (arith, l, e)

pub type_does_not_leave : (s : Setting) (c : ℕ) (g : Env) (ks : List VarKind) (u : Ty) → c ≤ 16 → ExpHas s c g ks leaving u → ⊥
type_does_not_leave s c g ks u l h =
    let k : IsTypeAt s.names c (length ks) t = subst (λ w. IsTypeAt s.names c (length ks) w) h.3.1 h.4 in
    too_low c l (second (is_well_formed s.names (length ks) t) (nat_lt 16 c) (sym (t_known s.names c (length ks)) ∙ k))

-- ---- a parameter has one type

-- the number of a type's name, and that of its argument's
abbrev numbers_step : Ty-F (ℕ × ℕ) → ℕ × ℕ
numbers_step (Ty-F.Free n) = (0, 0)
numbers_step (Ty-F.Bound i) = (0, 0)
numbers_step (Ty-F.Fields fields) = (0, 0)
numbers_step (Ty-F.Arrow a b) = (0, a.0)
numbers_step (Ty-F.Con name args) = (name.id, 0)

abbrev argument_number : Ty → ℕ
argument_number u = (fold-Ty (ℕ × ℕ) numbers_step u).1

from_int : (u : Ty) → argument_number (arrow int u) ≡ 0
from_int u = search (rules, TheFolds.the_lemmas)

from_string : (u : Ty) → argument_number (arrow string u) ≡ 3
from_string u = search (rules, TheFolds.the_lemmas)

zero_three : ◌≡◌ {A = ℕ} 0 3 → ⊥
zero_three e = absurd (cc e)

apart : (u v w x : Ty) → arrow u v ≡ arrow w x → u ≡ int → w ≡ string → ⊥
apart u v w x e i j =
    zero_three
    (sym (from_int v) ∙ (sym (ap (λ y. argument_number (arrow y v)) i) ∙ (ap argument_number e ∙ (ap (λ y. argument_number (arrow y x)) j ∙ from_string x))))

none_stand : (ks : List VarKind) (args : List Ty) → MayStandForAll no_free (kind_at ks) [] args → args ≡ []
none_stand ks [] h = refl
none_stand ks (t ∷ ts) h = absurd h

one_type : (s : Setting) (c : ℕ) (g : Env) (ks : List VarKind) (n : ℕ) (u v w : Ty) → UseOf s c g ks (Some (General n [] u)) v NoDicts → UseOf s c g ks (Some (General n [] u)) w NoDicts → v ≡ w
one_type s c g ks n u v w h k =
    h.3
    ∙ (ap (λ l. applied (variables 0 n ++ l) u) (none_stand ks h.0 h.1 ∙ sym (none_stand ks k.0 k.1)) ∙ sym k.3)

abbrev f_at : Ty → Exp
f_at u = Local 1 u NoDicts

two_uses : (s : Setting) (c : ℕ) (g : Env) (ks : List VarKind) (u v w : Ty) (fields : List (Label × Ty))
    → AllHave s c (put_binders (length ks) [] (record { number = 1; name = codes "f"; type = u } ∷ []) g) ks (MoreExps (Apply (f_at v) (number 1)) (MoreExps (Apply (f_at w) (text (codes "a"))) NoExps)) (seconds fields)
    → ⊥
two_uses s c g ks u v w [] h = h
two_uses s c g ks u v w (x ∷ []) h = h.1
two_uses s c g ks u v w (x ∷ y ∷ fields) h =
    let k = h.1.0 in
    let e = one_type s c (put_binders (length ks) [] (record { number = 1; name = codes "f"; type = u } ∷ []) g) ks (length ks) u v w h.0.1.2 k.1.2 in
    apart h.0.0 x.1 k.0 y.1 (h.0.1.0 ∙ (e ∙ sym k.1.0)) h.0.2 k.2

pub parameter_has_one : (s : Setting) (c : ℕ) (g : Env) (ks : List VarKind) (u v w r : Ty) → ExpHas s c g ks (twice_parameter u v w) r → ⊥
parameter_has_one s c g ks u v w r h =
    let rule = h.3.0 in
    let body = subst (λ bs. ExpHas s c (put_binders (length ks) [] bs g) ks (both (Apply (f_at v) (number 1)) (Apply (f_at w) (text (codes "a")))) (pair int string)) rule.1.2 rule.2 in
    two_uses s c g ks u v w body.0 body.3

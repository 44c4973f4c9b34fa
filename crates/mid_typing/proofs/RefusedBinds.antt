-- Bindings that are refused: recursion at two types, and what the profile refuses.
use Rattle.std.proofs.Common.{rules, ◌≡◌, ◌⊎◌, inl, inr, ℕ, suc, true, false, Bool, List, [], ◌∷◌, ◌++◌, map, refl, subst, sym, ap, ◌∙◌, arith}
use Rattle.std.specs.Prelude.{IsTrue, codes, Some, if◌then◌else◌, nat_eq, ◌==◌, ◌&&◌, ◌||◌, not}
use Rattle.std.specs.List.{list_any}
use Rattle.tl_text.specs.Pairs.{seconds}
use Rattle.sml_static.specs.declared.ty.Label.{Label}
use Rattle.sml_static.specs.declared.ty.Ty.{Ty, fold-Ty}
use Rattle.sml_static.specs.declared.ty.Ty.TheOpen.{Ty-F}
use Rattle.sml_static.specs.declared.ty.Ty.TheVariants as ty
use Rattle.sml_static.specs.declared.ty.Ty.TheFolds
use Rattle.sml_static.specs.declared.ty.VarKind.{VarKind}
use Rattle.sml_static.specs.declared.ty.VarKind.TheVariants as kind
use Rattle.sml_static.specs.Shapes.{AnyShape, MadeShape, Of, datatype_of}
use Rattle.sml_static.specs.Types.{applied}
use Rattle.mid_ast.specs.Tree.{Pat, PVar, NoPats, MorePats, NoBinds, MoreBinds, NoDicts, Fun}
use Rattle.mid_typing.specs.Types.{arrow, bool, equal_args, int, is_arrow, is_equality_general, is_general, pair}
use Rattle.mid_typing.specs.Env.{Env, Entry, Within, local_at}
use Rattle.mid_typing.specs.Dicts.{Setting}
use Rattle.mid_typing.specs.Patterns.{Binder, PatsHave, put_binders}
use Rattle.mid_typing.specs.Profile.{TakesAll}
use Rattle.mid_typing.specs.MidTypes.{ExpHas, ItemBinds, Member, MembersHave, UseOf, seen, within}
use Rattle.mid_typing.specs.Examples.{a, f_pat, n_pat, recursive, recursive_call, rule, x_pat, refutable, some_pat, some_type, split_equality, test_of_int, used_equality}

-- ---- an equality variable at a type that is no function

no_test : is_arrow test_of_int ≡ false
no_test = search (rules, TheFolds.the_lemmas)

some_none : (x : VarKind) (xs : List VarKind) → (x ∷ xs) ≡ [] → ⊥
some_none x xs e = absurd (cc e)

true_false : true ≡ false → ⊥
true_false e = absurd (cc e)

pub used_at_no_function : (s : Setting) (c : ℕ) (g : Env) (c2 : ℕ) (e : Env) → ItemBinds s c g used_equality c2 e → ⊥
used_at_no_function s c g c2 e h = by h.1.0.6.uses
  where
    not_plain : (b : Bool) → b ≡ false → (b && (true && true)) ≡ true → ⊥
    not_plain true f p = true_false f
    not_plain false f p = absurd (cc p)

    by : ((kind.Plain ∷ []) ≡ []) ⊎ ((IsTrue true × ⊥) ⊎ ((is_arrow test_of_int && (true && true)) ≡ true)) → ⊥
    by (inl p) = some_none kind.Plain [] p
    by (inr (inl p)) = p.1
    by (inr (inr p)) = not_plain (is_arrow test_of_int) no_test p

-- ---- a pattern that binds an equality variable

f_is : is_equality_general (kind.Equal ∷ []) 0 (arrow (pair a a) bool) ≡ true
f_is = search (rules, TheFolds.the_lemmas)

not_or : (b d : Bool) → b ≡ true → IsTrue (not (b || d)) → ⊥
not_or true d e h = absurd (cc h)
not_or false d e h = absurd (cc e)

abbrev f_binder : Binder
f_binder = record { number = 1; name = codes "f"; type = arrow (pair a a) bool }

abbrev any_equality : List Binder → Bool
any_equality bs = list_any (λ b. is_equality_general (kind.Equal ∷ []) 0 b.type) bs

f_first : (bs cs ds : List Binder) → cs ≡ f_binder ∷ [] → bs ≡ cs ++ ds → IsTrue (not (any_equality bs)) → ⊥
f_first bs cs ds e f h =
    not_or (is_equality_general (kind.Equal ∷ []) 0 (arrow (pair a a) bool)) (any_equality ds) f_is
    (subst (λ l. IsTrue (not (any_equality l))) (f ∙ ap (λ l. l ++ ds) e) h)

two_parts : (s : Setting) (c : ℕ) (g : Env) (fields : List (Label × Ty)) (bs : List Binder)
    → PatsHave s c g (kind.Equal ∷ []) (MorePats f_pat (MorePats n_pat NoPats)) (seconds fields) bs → IsTrue (not (any_equality bs)) → ⊥
two_parts s c g [] bs r h = r
two_parts s c g (x ∷ fields) bs r h = f_first bs r.0 r.1 r.2.2 r.4 h

pub split_is_refused : (s : Setting) (c : ℕ) (g : Env) (c2 : ℕ) (e : Env) → ItemBinds s c g split_equality c2 e → ⊥
split_is_refused s c g c2 e h =
    let bind = h.1.0 in two_parts s c g bind.4.0 bind.1 bind.4.3 bind.6.equality

-- ---- a pattern that does not take all values

pub refutable_is_refused : (s : Setting) (c : ℕ) (g : Env) (c2 : ℕ) (e : Env) → ItemBinds s c g refutable c2 e → ⊥
refutable_is_refused s c g c2 e h =
    let bind = h.1.0 in
    let pat = bind.4.4 in
    taken (bind.6.refutable (subst (λ (bs : List Binder). IsTrue (list_any (λ b. is_general 0 b.type) bs)) (sym pat.2) f_general))
  where
    some_made : datatype_of some_type ≡ 8
    some_made = search (rules, TheFolds.the_lemmas)

    f_general : (is_general 0 (arrow a a) || false) ≡ true
    f_general = search (rules, TheFolds.the_lemmas)

    taken : TakesAll some_pat → ⊥
    taken t =
        t.0 (λ d. codes "NONE" ∷ codes "SOME" ∷ []) (MadeShape (Of 8 (codes "NONE")) AnyShape) (record { named = refl; shape = refl })
        (subst (λ n. (((n == 8) && true) || (((n == 8) && false) && false)) && true ≡ true) (sym some_made) refl)

-- ---- a function inside its own group

-- the number of a type's name, one more, and that of its argument's; 0 for what has no name
abbrev numbers_step : Ty-F (ℕ × ℕ) → ℕ × ℕ
numbers_step (Ty-F.Free n) = (0, 0)
numbers_step (Ty-F.Bound i) = (0, 0)
numbers_step (Ty-F.Fields fields) = (0, 0)
numbers_step (Ty-F.Arrow x y) = (0, x.0)
numbers_step (Ty-F.Con name args) = (suc name.id, 0)

abbrev argument_number : Ty → ℕ
argument_number u = (fold-Ty (ℕ × ℕ) numbers_step u).1

from_int : argument_number (arrow int int) ≡ 1
from_int = search (rules, TheFolds.the_lemmas)

from_variable : argument_number (arrow a int) ≡ 0
from_variable = search (rules, TheFolds.the_lemmas)

one_zero : ◌≡◌ {A = ℕ} 1 0 → ⊥
one_zero e = absurd (cc e)

itself : (v : ℕ) → nat_eq v v ≡ true
itself v = grind arith

one_own : (group : ℕ → VarKind) (own : List ℕ) → (kind.Plain ∷ []) ≡ map group own → map (seen 0 own) own ≡ a ∷ []
one_own group [] e = absurd (cc e)
one_own group (v ∷ []) e = ap (λ b. (if b then ty.Bound 0 else ty.Free v) ∷ []) (itself v)
one_own group (v ∷ w ∷ own) e = absurd (none_more kind.Plain (group v) (group w) (map group own) e)
  where
    none_more : (x y z : VarKind) (zs : List VarKind) → (x ∷ []) ≡ (y ∷ z ∷ zs) → ⊥
    none_more x y z zs e = absurd (cc e)

stays : applied (a ∷ []) (arrow a int) ≡ arrow a int
stays = search (rules, TheFolds.the_lemmas)

abbrev number_of : Pat → ℕ
number_of (PVar x n t) = x
number_of _ = 0

abbrev type_of : Pat → Ty
type_of (PVar x n t) = t
type_of _ = int

abbrev f_type : Ty
f_type = arrow a int

own_type : (s : Setting) (c : ℕ) (g : Env) (group : ℕ → VarKind) (ms : List Member)
    → MembersHave s c g [] group ms (MoreBinds (PVar 1 (codes "f") f_type) (kind.Plain ∷ []) (Fun (rule x_pat recursive_call) a int) NoBinds) ms → ⊥
own_type s c g group [] h = h
own_type s c g group (m ∷ ms) h =
    let inner : Env = within group 0 m.own (m ∷ ms) g in
    let body = h.5.3.0 in
    let call = subst (λ bs. ExpHas s c (put_binders 1 [] bs inner) (kind.Plain ∷ []) recursive_call int) body.1.2 body.2 in
    let us : List Ty = map (seen 0 m.own) m.own in
    let entry : Entry = Within (applied us m.type) (equal_args (map group m.own) us) in
    let env : Env = put_binders 1 [] (record { number = 2; name = codes "x"; type = a } ∷ []) inner in
    let at_it = subst (λ k. UseOf s c env (kind.Plain ∷ []) (if nat_eq 1 k then Some entry else local_at 1 (within group 0 m.own ms g)) (arrow int int) NoDicts) (sym (ap number_of h.0)) call.1.2 in
    let same : arrow int int ≡ arrow a int = at_it.0 ∙ (ap (λ l. applied l m.type) (one_own group m.own h.1) ∙ (ap (λ t. applied (a ∷ []) t) (sym (ap type_of h.0)) ∙ stays)) in
    one_zero (sym from_int ∙ (ap argument_number same ∙ from_variable))

pub recursion_has_one_type : (s : Setting) (c : ℕ) (g : Env) (c2 : ℕ) (e : Env) → ItemBinds s c g recursive c2 e → ⊥
recursion_has_one_type s c g c2 e h = own_type s c g h.1.0 h.1.1 h.1.2

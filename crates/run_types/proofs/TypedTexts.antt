-- Small texts are typed.
use Rattle.std.proofs.Common.{◌≡◌, ℕ, suc, inl, inr, List, [], ◌∷◌, Option, Some, Bool, refl, sym, ap, subst}
use Rattle.std.specs.Prelude.{codes}
use Rattle.beh.specs.Agree.{Agree}
use Rattle.run_types.proofs.Basics.{basic_bools, basic_holds, no_givens_ok, text_has}
use Rattle.run_types.proofs.Rowed.{typed_agree}
use Rattle.run_types.specs.Basic.{basic_world, text_types}
use Rattle.run_types.specs.TypedTexts.{after_f, after_hello, after_rt, after_twice, bad_cell, identity, identity_scheme, only, pair_ty, rt_types, twice, unit_types}
use Rattle.run_types.specs.Types.{Binds, ConsT, Ctx, Has, HasItems, NilT, TArr, TInt, TString, Ty, Tys, World, join, nth, unit_ty}
use Rattle.runs.proofs.Begin.{text_ordered}
use Rattle.runs.proofs.SmallTexts.{hello_ordered}
use Rattle.runs.specs.Env.{binds}
use Rattle.runs.specs.Examples.{hello, int, name, rt_part, s_part, text}
use Rattle.runs.specs.Forms.{call, text_scope, var}
use Rattle.runs.specs.Items.{mean_items}
use Rattle.runs.specs.Meaning.{Wrong}
use Rattle.runs.specs.Names.{Name, Part}
use Rattle.runs.specs.Primitives.{St, start}
use Rattle.runs.specs.Seen.{ConfigStep, at_start, behaviour, seen_config}
use Rattle.runs.specs.Tree.{Exp, Lit, PAny, PVar, Str, Var}

-- a variable with one type
var_binds : (w : World) (g : Ctx) (x : Name) (a : Ty) → Binds w g (λ u. u ≡ a) (PVar x) (only a)
var_binds w g x a = ((a, (λ y. Some a), refl, refl), λ y u i o. (a, (λ z. Some a), refl, refl, ap Some (sym o)))

any_binds : (w : World) (g : Ctx) (a : Ty) (h : Ctx) → Binds w g (λ u. u ≡ a) PAny h
any_binds w g a h = ((a, (λ y. Some a), refl, tt), λ y u i o. absurd (cc i))

call_has : (w : World) (g : Ctx) (f a : Exp) (b t : Ty) → Has w g f (TArr b t) → Has w g a b → Has w g (call f a) t
call_has w g f a b t h k = (ConsT (TArr b t) (ConsT b NilT), (h, (k, tt)), (b, refl))

pub hello_typed : (w : World) (t : List ℕ) → HasItems w text_types (hello t) after_hello
hello_typed w t = (
  rt_types,
  (
    inl tt,
    TArr TString unit_ty,
    (
      TString,
      unit_ty,
      refl,
      inl tt,
      (only TString, var_binds w text_types.env (var s_part) TString, call_has w (join (binds (PVar (var s_part))) (only TString) text_types.env) (Var (var (codes "print_string"))) (Var (var s_part)) TString unit_ty refl refl, tt),
    ),
    only (TArr TString unit_ty),
    inl (var_binds w text_types.env (var (codes "print")) (TArr TString unit_ty)),
    ((λ x u h. h), (λ x u h. h)),
  ),
  (
    unit_types,
    (
      inl tt,
      unit_ty,
      call_has w after_rt.env (Var (rt_part ∷ codes "print" ∷ [])) (Lit (Str t)) TString unit_ty refl refl,
      only unit_ty,
      inl (any_binds w after_rt.env unit_ty (only unit_ty)),
      (
        inl tt,
        TInt,
        refl,
        only TInt,
        inl (var_binds w (join (binds PAny) (only unit_ty) after_rt.env) (var (codes "x")) TInt),
        ((λ x u h. h), (λ x u h. h)),
      ),
    ),
    ((λ x u h. h), (λ x u h. h)),
  ),
)

-- so it runs as it means, whatever its meaning is
pub hello_safe : (more : ℕ → Bool → Part → Option Tys) (t : List ℕ) → Agree (λ n. behaviour (mean_items n text_scope (hello t) start)) ConfigStep seen_config (at_start text_scope (hello t) start)
hello_safe more t =
    let w : World = basic_world more [] in
    typed_agree (hello t) w text_types after_hello text_scope start no_givens_ok (text_has w (basic_bools more [])) (hello_typed w t) (basic_holds more []) text_ordered (hello_ordered t) tt

identity_has : (w : World) (g : Ctx) (a : Ty) → Has w g identity (TArr a a)
identity_has w g a = (a, a, refl, inl tt, (only a, var_binds w g (var (codes "x")) a, refl, tt))

-- the identity at two types
pub twice_typed : (w : World) → HasItems w text_types twice after_twice
twice_typed w = (
  inl tt,
  TArr TInt TInt,
  identity_has w text_types.env TInt,
  identity_scheme,
  inr (tt, ((TArr TInt TInt, (λ y. Some (TArr TInt TInt)), identity_has w text_types.env TInt, refl), λ x u i o. (u, (λ y. Some u), subst (Has w text_types.env identity) (sym o.2) (identity_has w text_types.env (nth 0 o.0)), refl, refl))),
  (
    inl tt,
    pair_ty,
    (
      ConsT TInt (ConsT TString NilT),
      (call_has w after_f.env (name (codes "f")) (int 5) TInt TInt (ConsT TInt NilT, tt, refl) refl, (call_has w after_f.env (name (codes "f")) (text (codes "a")) TString TString (ConsT TString NilT, tt, refl) refl, tt)),
      refl,
    ),
    only pair_ty,
    inl (var_binds w after_f.env (var (codes "x")) pair_ty),
    ((λ x u h. h), (λ x u h. h)),
  ),
)

pub bad_goes_wrong : (n : ℕ) → (s : St) × (mean_items (suc (suc n)) text_scope bad_cell start ≡ Wrong s)
bad_goes_wrong n = (_, refl)

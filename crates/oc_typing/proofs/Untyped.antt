-- Small texts that do not type.
use Rattle.std.proofs.Common.{◌≡◌, ℕ, suc, ◌+◌, ◌<◌, ◌≤◌, ◌⊎◌, inl, inr, List, [], ◌∷◌, ◌++◌, Some, None, refl, sym, ap, ap₂, ◌∙◌, subst, arith}
use Rattle.oc_ast.specs.Plain.{Bytes}
use Rattle.oc_typing.specs.Ty.{Ty, Tys, Bound, Var, Stamped, Arrow, Product, NoTypes, MoreTypes, IsClosed, AreClosed, Instance, inst, inst_all, int, unit}
use Rattle.oc_typing.specs.Env.{Env, TyEntry, Empty, AddVal, AddCon, AddType, AddMod, con_at, over}
use Rattle.oc_typing.specs.Variables.{NoVars, OneVar, Vars, VarsClosed, inst_vars, put_vars}
use Rattle.oc_typing.specs.Definitions.{AreNew, put_defs}
use Rattle.oc_typing.specs.Patterns.{ConHas}
use Rattle.oc_typing.specs.OcTypes.{FullTypes, ItemBinds, OnceEach}
use Rattle.oc_typing.specs.OcText.{OcText}
use Rattle.oc_typing.specs.Examples.{f, M, t, A, at_two, twice_parameter, twice_called, leaving, circle, module_twice, one_variant, functions_compared, unbound}

-- ---- a closed type is its own instance

mutual
  pub closed_inst : (us : ℕ → Ty) (a : Ty) → IsClosed a → inst us a ≡ a
  closed_inst us (Bound i) c = absurd c
  closed_inst us (Var i) c = refl
  closed_inst us (Stamped s ts) c = ap (Stamped s) (closed_inst_all us ts c)
  closed_inst us (Arrow a b) c = ap₂ (λ v w. Arrow v w) (closed_inst us a c.0) (closed_inst us b c.1)
  closed_inst us (Product ts) c = ap Product (closed_inst_all us ts c)

  pub closed_inst_all : (us : ℕ → Ty) (ts : Tys) → AreClosed ts → inst_all us ts ≡ ts
  closed_inst_all us NoTypes c = refl
  closed_inst_all us (MoreTypes a ts) c = ap₂ (λ v w. MoreTypes v w) (closed_inst us a c.0) (closed_inst_all us ts c.1)

int_unit : int ≡ unit → ⊥
int_unit e = absurd (cc e)

abbrev left_of : Ty → Ty
left_of (Arrow a b) = a
left_of _ = unit

-- a name of a closed type has one type
one_type : (s a b : Ty) → IsClosed s → Instance s a → Instance s b → a ≡ b
one_type s a b c h k = h.2 ∙ (closed_inst h.0 s c ∙ sym (k.2 ∙ closed_inst k.0 s c))

two_uses : (s a b : Ty) → IsClosed s → Instance s (Arrow int a) → Instance s (Arrow unit b) → ⊥
two_uses s a b c h k = int_unit (ap left_of (one_type s (Arrow int a) (Arrow unit b) c h k))

not_at_two : (g : Env) (s a : Ty) → IsClosed s → FullTypes (AddVal f s g) at_two a → ⊥
not_at_two g s a c r = two_uses s r.0 r.3.0 c (subst (λ v. Instance s (Arrow v r.0)) r.2.2 r.2.1) (subst (λ v. Instance s (Arrow v r.3.0)) r.3.2.2 r.3.2.1)

-- a parameter has one type
pub parameter_has_one : (g : Env) (a : Ty) → FullTypes g twice_parameter a → ⊥
parameter_has_one g a r =
    let c = subst VarsClosed r.4 r.5 in not_at_two g r.0 r.1 c.0 (subst (λ bs. FullTypes (put_vars bs g) at_two r.1) r.4 r.7)

-- what an expansive right side binds has one type
abbrev tail : Vars → Vars
tail NoVars = NoVars
tail (OneVar y s bs) = bs

abbrev name : Vars → Bytes
name NoVars = []
name (OneVar y s bs) = y

only_f : (us : ℕ → Ty) (g : Env) (s a : Ty) (bs : Vars) → inst_vars us bs ≡ OneVar f s NoVars → VarsClosed bs → FullTypes (put_vars bs g) at_two a → ⊥
only_f us g s a NoVars e c r = absurd (cc e)
only_f us g s a (OneVar y w NoVars) e c r = not_at_two g w a c.0 (subst (λ n. FullTypes (AddVal n w g) at_two a) (ap name e) r)
only_f us g s a (OneVar y w (OneVar z v bs)) e c r =
    let h : OneVar z (inst us v) (inst_vars us bs) ≡ NoVars = ap tail e in absurd (cc h)

from_on : (k i j : ℕ) → k + i ≡ k + j → i ≡ j
from_on k i j e = omega (arith, e)

at_least : (k i : ℕ) → k ≤ k + i
at_least k i = omega arith

pub called_has_one : (g : Env) (a : Ty) → FullTypes g twice_called a → ⊥
called_has_one g a r = by r.1.1
  where
    by : (⊥ ⊎ (IsClosed r.1.0 × VarsClosed r.0)) → ⊥
    by (inl h) = h
    by (inr h) =
        let v : ℕ → ℕ = λ i. r.1.2.0 + i in
        let w = r.1.2.1 v (record { same = from_on r.1.2.0 }) (at_least r.1.2.0) in
        only_f (λ i. Var (v i)) g (inst (λ i. Var (v i)) r.1.0) a r.0 w.1 h.1 r.2

-- functions are not compared
arrow_stamped : (a b : Ty) (s : ℕ) → Arrow a b ≡ Stamped s NoTypes → ⊥
arrow_stamped a b s e = absurd (cc e)

pub functions_are_not_compared : (g : Env) (a : Ty) → FullTypes g functions_compared a → ⊥
functions_are_not_compared g a r = by r.0 r.3.0 r.3.1 r.3.3 r.2.0
  where
    by : (b c d : Ty) → b ≡ Arrow c d → ((b ≡ Stamped 0 NoTypes) ⊎ ((b ≡ Stamped 2 NoTypes) ⊎ (b ≡ Stamped 3 NoTypes))) → ⊥
    by b c d e (inl q) = arrow_stamped c d 0 (sym e ∙ q)
    by b c d e (inr (inl q)) = arrow_stamped c d 2 (sym e ∙ q)
    by b c d e (inr (inr q)) = arrow_stamped c d 3 (sym e ∙ q)

-- aliases that lead to one another
apart : (a b : ℕ) → a < b → b < a → ⊥
apart a b h k = omega (arith, h, k)

pub circle_binds_nothing : (c : ℕ) (g : Env) (c2 : ℕ) (d : Env) → ItemBinds c g circle c2 d → ⊥
circle_binds_nothing c g c2 d r = apart _ _ (r.4.1.0.0 refl) (r.4.1.1.0.0 refl)

-- a name that is not bound
pub unbound_has_none : (a : Ty) → FullTypes Empty unbound a → ⊥
unbound_has_none a r = r

-- a module that is bound twice
some_none : {B : Type 0} (b : B) → Some b ≡ None → ⊥
some_none b e = absurd (cc e)

pub twice_is_refused : (env : Env) → OcText module_twice env → ⊥
twice_is_refused env r =
    let first = r.1 in
    let second = first.4 in
    let e : env ≡ AddMod M second.3.0 (AddMod M first.3.0 Empty) = first.5 ∙ (ap₂ (λ d b. over d b) (second.5 ∙ ap₂ (λ d b. over d b) second.4.1 second.3.2) first.3.2) in
    let o = subst OnceEach e r.2 in some_none first.3.0 o.0

-- a type that is made inside a local module does not leave it
abbrev stamp_in : Ty → ℕ
stamp_in (Stamped s ts) = s
stamp_in _ = 0

abbrev first_or : ℕ → List ℕ → ℕ
first_or s [] = s
first_or s (r ∷ rs) = r

too_low : (k c s m : ℕ) → c ≡ k + suc m → c ≤ s → m ≡ s → ⊥
too_low k c s m e h i = omega (arith, e, h, i)

pub local_type_stays : (g : Env) (a : Ty) → FullTypes g leaving a → ⊥
local_type_stays g a r =
    let c : ℕ = r.0 + suc (stamp_in a) in
    let w = r.1 c (at_least r.0 (suc (stamp_in a))) in
    let item = w.2.3 in
    let defs = item.5 in
    let made = defs.4.1 in
    let cons = made.3 in
    let s : ℕ = made.0 in
    let entry : TyEntry = record { arity = 0; body = Stamped s NoTypes; cons = (A, None) ∷ [] } in
    let k = cons.4 ∙ ap₂ (λ o rest. (A, o) ∷ rest) cons.2 cons.3 in
    let here : defs.2 ≡ entry = made.4 ∙ ap (λ ks. record { arity = 0; body = Stamped s NoTypes; cons = ks }) k in
    let all : item.1 ≡ entry ∷ [] = defs.7 ∙ ap₂ (λ d ds. d ∷ ds) here defs.5.1 in
    let e : w.1 ≡ AddCon A (record { arg = None; made = Stamped s NoTypes }) (AddType t entry Empty) = w.2.5 ∙ ap₂ (λ d b. over d b) w.2.4.1 (item.6 ∙ ap (λ ts. put_defs one_variant ts Empty) all) in
    let has = subst (λ d. ConHas (con_at (M ∷ A ∷ []) (AddMod M d g)) None a) e w.4 in
    let stamps : item.0 ≡ s ∷ [] = defs.6 ∙ ap₂ (λ l n. l ++ n) made.2 defs.5.0 in
    let new = subst (λ l. AreNew c w.2.0 l) stamps item.3 in
    too_low r.0 c s (stamp_in a) refl new.0 (ap stamp_in has.1.2)

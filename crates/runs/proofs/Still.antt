-- Still trees make their values in any order, beside one part that does more.
use Rattle.std.proofs.Common.{◌≡◌, ℕ, suc, ◌+◌, ◌<◌, ◌⊎◌, inl, inr, Option, Some, None, true, refl, sym, ap, ap₂, ◌∙◌, subst, arith}
use Rattle.runs.proofs.Machines.{CanStep}
use Rattle.runs.specs.Env.{Env, close, close_all, var_or}
use Rattle.runs.specs.Names.{Name}
use Rattle.runs.specs.Ordered.{AllStill, Still}
use Rattle.runs.specs.Primitives.{Gives, Next, St, act, finished, gives, pure, pure_val, state, tree}
use Rattle.runs.specs.Steps.{HasFail, Step, StepIn}
use Rattle.runs.specs.Tree.{Apply, Build, Clo, Cons, Datum, Exp, Exps, Fail, Fn, Is, Item, ListOf, Lit, Make, Nil, NoVals, Node, Op, Oper, Pair, Val, Vals, Var}

abbrev pub pure_of : Op → Option Vals → Option Val
pure_of op None = None
pure_of op (Some vs) = pure_val op vs

-- such an operator makes its value, and nothing else
pub pure_act : (op : Op) (vs : Vals) (s : St) → pure op ≡ true → act op vs s ≡ gives (pure_val op vs) s
pure_act Pair vs s h = refl
pure_act (Build c) vs s h = refl
pure_act Make vs s h = refl
pure_act ListOf vs s h = refl
pure_act Apply vs s h = absurd (cc h)
pure_act (Oper o) vs s h = absurd (cc h)

abbrev pub item_of : Option Val → Option Vals → Option Vals
item_of None o = None
item_of (Some v) None = None
item_of (Some v) (Some vs) = Some (Item v vs)

abbrev mutual
  -- the value of a still tree
  pub result : Exp → Option Val
  result (Is v) = Some v
  result (Lit n) = Some (Datum n)
  result (Fn f rs) = Some (Clo f rs)
  result (Node op es) = pure_of op (results es)
  result _ = None

  pub results : Exps → Option Vals
  results Nil = Some NoVals
  results (Cons e es) = item_of (result e) (results es)

abbrev mutual
  -- how many steps a still tree takes
  pub weight : Exp → ℕ
  weight (Lit n) = 1
  weight (Fn f rs) = 1
  weight (Node op es) = suc (weights es)
  weight _ = 0

  pub weights : Exps → ℕ
  weights Nil = 0
  weights (Cons e es) = weight e + weights es

abbrev next_or : Next → Option Next → Next
next_or m None = m
next_or m (Some n) = n

pub some_next : (m n : Next) → Some m ≡ Some n → m ≡ n
some_next m n e = ap (next_or m) e

abbrev val_or : Val → Option Val → Val
val_or v None = v
val_or v (Some w) = w

abbrev vals_or : Vals → Option Vals → Vals
vals_or v None = v
vals_or v (Some w) = w

pub some_val : (v w : Val) → Some v ≡ Some w → v ≡ w
some_val v w e = ap (val_or v) e

pub some_vals : (v w : Vals) → Some v ≡ Some w → v ≡ w
some_vals v w e = ap (vals_or v) e

pub results_finished : (vs : Vals) → results (finished vs) ≡ Some vs
results_finished NoVals = refl
results_finished (Item v vs) = ap (item_of (Some v)) (results_finished vs)

pub still_finished : (vs : Vals) → AllStill (finished vs)
still_finished NoVals = tt
still_finished (Item v vs) = (tt, still_finished vs)

pub finished_stuck : (vs : Vals) (s : St) (fs : Exps) (s1 : St) → StepIn (finished vs) s fs s1 → ⊥
finished_stuck NoVals s fs s1 h = h
finished_stuck (Item v vs) s fs s1 (inl h) = h.1
finished_stuck (Item v vs) s fs s1 (inr h) = finished_stuck vs s h.0 s1 h.1

not_fail : (e : Exp) (v : Val) → Still e → e ≡ Fail v → ⊥
not_fail e v h q = subst Still q h

pub no_fail : (es : Exps) (v : Val) → AllStill es → HasFail es v → ⊥
no_fail Nil v h f = f
no_fail (Cons e es) v h (inl f) = not_fail e v h.0 f
no_fail (Cons e es) v h (inr f) = no_fail es v h.1 f

-- what one step of a still tree keeps
pub record Calm (e : Exp) (s : St) (t : Exp) (s1 : St) : Type 0 where
  pub same : s1 ≡ s
  pub still : Still t
  pub less : weight t < weight e
  pub result : result t ≡ result e

pub record AllCalm (es : Exps) (s : St) (fs : Exps) (s1 : St) : Type 0 where
  pub same : s1 ≡ s
  pub still : AllStill fs
  pub less : weights fs < weights es
  pub result : results fs ≡ results es

calm_eq : (e : Exp) (s : St) (t u : Exp) (s1 : St) → t ≡ u → Calm e s u s1 → Calm e s t s1
calm_eq e s t u s1 q c = subst (λ x. Calm e s x s1) (sym q) c

calm_all_eq : (es : Exps) (s : St) (fs gs : Exps) (s1 : St) → fs ≡ gs → AllCalm es s gs s1 → AllCalm es s fs s1
calm_all_eq es s fs gs s1 q c = subst (λ x. AllCalm es s x s1) (sym q) c

pure_case : (op : Op) (es : Exps) (s : St) (t : Exp) (s1 : St) (vs : Vals) (m : Next) (o : Option Val) → pure_val op vs ≡ o → es ≡ finished vs → gives o s ≡ Some m → t ≡ tree m → s1 ≡ state m → Calm (Node op es) s t s1
pure_case op es s t s1 vs m None qo q h qt qs = absurd (cc h)
pure_case op es s t s1 vs m (Some v) qo q h qt qs =
    let e : Gives v s ≡ m = some_next (Gives v s) m h in
    calm_eq (Node op es) s t (Is v) s1 (qt ∙ sym (ap tree e))
    (record { same = qs ∙ sym (ap state e); still = tt; less = omega arith; result = sym (ap (λ x. pure_of op (results x)) q ∙ ap (pure_of op) (results_finished vs) ∙ qo) })

pure_done : (op : Op) (es : Exps) (s : St) (t : Exp) (s1 : St) (vs : Vals) (m : Next) → pure op ≡ true → es ≡ finished vs → act op vs s ≡ Some m → t ≡ tree m → s1 ≡ state m → Calm (Node op es) s t s1
pure_done op es s t s1 vs m p q h qt qs = pure_case op es s t s1 vs m (pure_val op vs) refl q (sym (pure_act op vs s p) ∙ h) qt qs

mutual
  pub still_step : (e : Exp) (s : St) (t : Exp) (s1 : St) → Still e → Step e s t s1 → Calm e s t s1
  still_step (Is v) s t s1 h st = absurd st
  still_step (Lit n) s t s1 h st = calm_eq (Lit n) s t (Is (Datum n)) s1 st.0 (record { same = st.1; still = tt; less = omega arith; result = refl })
  still_step (Var x) s t s1 h st = absurd st
  still_step (Fn f rs) s t s1 h st = calm_eq (Fn f rs) s t (Is (Clo f rs)) s1 st.0 (record { same = st.1; still = tt; less = omega arith; result = refl })
  still_step (Node op es) s t s1 h (inl st) =
      let c = still_parts es s st.0 s1 h.1 st.1 in
      calm_eq (Node op es) s t (Node op st.0) s1 st.2 (record { same = c.same; still = (h.0, c.still); less = omega (arith, c.less); result = ap (pure_of op) c.result })
  still_step (Node op es) s t s1 h (inr (inl st)) = absurd (no_fail es st.0 h.1 st.1)
  still_step (Node op es) s t s1 h (inr (inr st)) = pure_done op es s t s1 st.0 st.1 h.0 st.2 st.3 st.4 st.5
  still_step _ s t s1 h st = absurd h

  pub still_parts : (es : Exps) (s : St) (fs : Exps) (s1 : St) → AllStill es → StepIn es s fs s1 → AllCalm es s fs s1
  still_parts Nil s fs s1 h st = absurd st
  still_parts (Cons e es) s fs s1 h (inl st) =
      let c = still_step e s st.0 s1 h.0 st.1 in
      calm_all_eq (Cons e es) s fs (Cons st.0 es) s1 st.2 (record { same = c.same; still = (c.still, h.1); less = omega (arith, c.less); result = ap (λ o. item_of o (results es)) c.result })
  still_parts (Cons e es) s fs s1 h (inr st) =
      let c = still_parts es s st.0 s1 h.1 st.1 in
      calm_all_eq (Cons e es) s fs (Cons e st.0) s1 st.2 (record { same = c.same; still = (h.0, c.still); less = omega (arith, c.less); result = ap (item_of (result e)) c.result })

-- parts can step
abbrev pub CanStepIn : Exps → St → Type 0
CanStepIn es s = (fs : Exps) × (s1 : St) × StepIn es s fs s1

-- a row of still parts that makes a value can step
go_pure : (op : Op) (es : Exps) (s : St) (v : Val) → pure op ≡ true → pure_of op (results es) ≡ Some v → ((vs : Vals) × (es ≡ finished vs)) ⊎ CanStepIn es s → CanStep (Node op es) s
go_pure op es s v p q (inl f) =
    let r : pure_val op f.0 ≡ Some v = ap (pure_of op) (sym (results_finished f.0)) ∙ ap (λ x. pure_of op (results x)) (sym f.1) ∙ q in
    (Is v, s, inr (inr (f.0, Gives v s, f.1, pure_act op f.0 s p ∙ ap (λ o. gives o s) r, refl, refl)))
go_pure op es s v p q (inr c) = (Node op c.0, c.1, inl (c.0, c.2, refl))

go_both : (e : Exp) (es : Exps) (s : St) → ((v : Val) × (e ≡ Is v)) ⊎ CanStep e s → ((vs : Vals) × (es ≡ finished vs)) ⊎ CanStepIn es s → ((vs : Vals) × (Cons e es ≡ finished vs)) ⊎ CanStepIn (Cons e es) s
go_both e es s (inr c) q = inr (Cons c.0 es, c.1, inl (c.0, c.2, refl))
go_both e es s (inl f) (inr c) = inr (Cons e c.0, c.1, inr (c.0, c.2, refl))
go_both e es s (inl f) (inl g) = inl (Item f.0 g.0, ap₂ Cons f.1 g.1)

some_pure : (op : Op) (o : Option Vals) (v : Val) → pure_of op o ≡ Some v → (vs : Vals) × (o ≡ Some vs)
some_pure op None v q = absurd (cc q)
some_pure op (Some vs) v q = (vs, refl)

some_item : (o : Option Val) (p : Option Vals) (ws : Vals) → item_of o p ≡ Some ws → (v : Val) × (vs : Vals) × (o ≡ Some v) × (p ≡ Some vs)
some_item None p ws q = absurd (cc q)
some_item (Some v) None ws q = absurd (cc q)
some_item (Some v) (Some vs) ws q = (v, vs, refl, refl)

mutual
  -- a still tree with a value is that value, or can step
  pub still_goes : (e : Exp) (s : St) (v : Val) → Still e → result e ≡ Some v → ((w : Val) × (e ≡ Is w)) ⊎ CanStep e s
  still_goes (Is w) s v h q = inl (w, refl)
  still_goes (Lit n) s v h q = inr (Is (Datum n), s, (refl, refl))
  still_goes (Var x) s v h q = absurd (cc q)
  still_goes (Fn f rs) s v h q = inr (Is (Clo f rs), s, (refl, refl))
  still_goes (Node op es) s v h q =
      let r = some_pure op (results es) v q in
      inr (go_pure op es s v h.0 q (parts_go es s r.0 h.1 r.1))
  still_goes _ s v h q = absurd h

  pub parts_go : (es : Exps) (s : St) (vs : Vals) → AllStill es → results es ≡ Some vs → ((ws : Vals) × (es ≡ finished ws)) ⊎ CanStepIn es s
  parts_go Nil s vs h q = inl (NoVals, refl)
  parts_go (Cons e es) s vs h q =
      let r = some_item (result e) (results es) vs q in
      go_both e es s (still_goes e s r.0 h.0 r.2) (parts_go es s r.1 h.1 r.3)

var_still : (y : Name) (o : Option Val) → Still (var_or y o)
var_still y None = tt
var_still y (Some v) = tt

mutual
  pub still_close : (env : Env) (e : Exp) → Still e → Still (close env e)
  still_close env (Is w) h = tt
  still_close env (Lit n) h = tt
  still_close env (Var y) h = var_still y (env y)
  still_close env (Fn f rs) h = tt
  still_close env (Node op es) h = (h.0, stills_close env es h.1)
  still_close env _ h = absurd h

  pub stills_close : (env : Env) (es : Exps) → AllStill es → AllStill (close_all env es)
  stills_close env Nil h = tt
  stills_close env (Cons e es) h = (still_close env e h.0, stills_close env es h.1)

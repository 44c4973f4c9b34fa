-- Trees and rows of items follow their evaluation.
use Rattle.std.proofs.Common.{ℕ, zero, suc, ◌++◌, refl, sym, subst, arith}
use Rattle.runs.proofs.Close.{close_bound, close_put, found_put, group_dom, held_scope}
use Rattle.runs.proofs.Follow.{Going, RulesFollow, case_follows, try_follows}
use Rattle.runs.proofs.Inevitable.{now}
use Rattle.runs.proofs.ItemRows.{applied_follows, body_follows, exn_ordered, from_held, functor_ordered, funs_ordered, held_scope_ordered, local_follows, silent, struct_follows, struct_ordered, under_ordered, value_follows, vars_ordered}
use Rattle.runs.proofs.Keep.{empty_ordered, fields_ordered, funs_ordered_close, group_ordered, held_ordered, hide_ordered, over_ordered, put_ordered, rules_ordered_close}
use Rattle.runs.proofs.Machines.{Follows, FollowsOf, done_follows, lost_follows, one_step, trees, works}
use Rattle.runs.proofs.Rows.{AllFollow, made, row, row_follows, var_follows}
use Rattle.runs.specs.Env.{Env, close, close_funs, close_pat, close_rules, empty, fields, found_env, functor_at, group, hide, kept_env, names, nothing, over, put, put_into, through, under, within}
use Rattle.runs.specs.Items.{mean_items}
use Rattle.runs.specs.Meaning.{Done, Go, ev, ev_items, mean, then_do}
use Rattle.runs.specs.Names.{same}
use Rattle.runs.specs.Ordered.{AllOrdered, Ordered, OrderedEnv, OrderedItems, OrderedMem, OrderedRules, OrderedScope}
use Rattle.runs.specs.Primitives.{St, body, drawn, next_name}
use Rattle.runs.specs.Scope.{Scope, held, inside, scope_of, with_exn, with_functor, with_funs, with_struct, with_vars}
use Rattle.runs.specs.Tree.{Alias, Applied, Case, Clo, Cons, Datum, Doing, End, Exception, Exp, Exps, Fail, Fn, Functions, FunctorOf, Group, Held, Hold, InMod, InStruct, Is, Items, LetMod, Lit, Module, NewExn, Nil, Node, Open, Rest, Rule, Rules, Stop, Struct, StructOf, Try, Value, Var, Whole}

mutual
  pub follow : (n : ℕ) (go : Go) → Going n go → (e : Exp) (env : Env) (s : St) → OrderedEnv env → Ordered e → OrderedMem s.mem → Follows (suc n) (ev go env e s) (close env e) s
  follow n go rec (Is v) env s he h m = done_follows trees (suc n) v s h m
  follow n go rec (Fail v) env s he h m = lost_follows trees (suc n) v s h m
  follow n go rec (Lit i) env s he h m = made (suc n) (Lit i) (Datum i) s (Is (Datum i), s, (refl, refl)) (λ t s1 st. st) tt m
  follow n go rec (Var x) env s he h m = var_follows (suc n) x (env x) s (he x) m
  follow n go rec (Fn f rs) env s he h m =
      let v = Clo f (close_rules env rs) in
      made (suc n) (Fn f (close_rules env rs)) v s (Is v, s, (refl, refl)) (λ t s1 st. st) (h.0, rules_ordered_close env rs he h.1) m
  follow n go rec (Group fs b) env s he h m =
      let gs = close_funs (hide (names fs) env) fs in
      let c = close (hide (names fs) env) b in
      let r = ev go (over (group gs) env) b s in
      let hg = group_ordered gs (funs_ordered_close (hide (names fs) env) fs (hide_ordered (names fs) env he) h.0) in
      one_step trees (suc n) (suc n) r (Group gs c) (close (group gs) c) s s (omega arith) (close (group gs) c, s, (refl, refl)) (λ t s1 st. st)
      (subst (λ y. Follows (suc n) r y s) (sym (close_bound (names fs) (group gs) env b (group_dom (hide (names fs) env) fs)))
      (follow n go rec b (over (group gs) env) s (over_ordered (group gs) env hg he) h.1 m))
  follow n go rec (Node op es) env s he h m = row_follows n go env op es s rec he h.1 m (row (suc n) go env es h.0 h.1 (follow_all n go rec es env he h.1))
  follow n go rec (Case f a rs) env s he h m = case_follows (suc n) go f (close env a) env rs s (ev go env a s) h.0 (follow_rules n go rec rs env he h.2) (follow n go rec a env s he h.1 m)
  follow n go rec (NewExn x b) env s he h m =
      let v = next_name s in
      let c = close (hide (same x) env) b in
      one_step trees (suc n) (suc n) (ev go (put x v env) b (drawn x s)) (NewExn x c) (close (put x v empty) c) s (drawn x s) (omega arith) (close (put x v empty) c, drawn x s, (refl, refl)) (λ t s1 st. st)
      (subst (λ y. Follows (suc n) (ev go (put x v env) b (drawn x s)) y (drawn x s)) (sym (close_put x v env b)) (follow n go rec b (put x v env) (drawn x s) (put_ordered x v env tt he) h m))
  follow n go rec (LetMod e p is b) env s he h m =
      let e1 = put_into e env in
      let b1 = close (hide (through p) env) b in
      let c : Scope = record { env = over (found_env e) env; own = empty } in
      let r = then_do (ev_items go c is s) (λ (d : Scope) s1. ev go (under p d.own env) b s1) in
      let hc : OrderedEnv (found_env e1) = subst OrderedEnv (sym (found_put e env)) (over_ordered (found_env e) env (held_ordered e h.0) he) in
      let items = subst (λ x. FollowsOf works (suc n) (ev_items go (record { env = x; own = empty }) is s) (Rest (Hold e1 nothing) is) s) (found_put e env) (follow_items n go rec is (Hold e1 nothing) s (hc, empty_ordered) h.1 m) in
      one_step trees (suc n) (suc n) r (LetMod e1 p is b1) (InMod p (Rest (Hold e1 nothing) is) b1) s s (omega arith) (InMod p (Rest (Hold e1 nothing) is) b1, s, (refl, refl)) (λ t s1 st. st)
      (local_follows (suc n) go env p (Rest (Hold e1 nothing) is) b s (ev_items go c is s)
      (λ d s1 hd m1. follow n go rec b (under p d.own env) s1 (under_ordered p d.own env hd.1 he) h.2 m1) items)
  follow n go rec (InMod p w b) env s he h m = absurd h
  follow n go rec (StructOf e is) env s he h m =
      let e1 = put_into e env in
      let r = then_do (ev_items go (record { env = over (found_env e) env; own = empty }) is s) (λ (c : Scope) s1. Done (Module (kept_env c.own)) s1) in
      let hc : OrderedEnv (found_env e1) = subst OrderedEnv (sym (found_put e env)) (over_ordered (found_env e) env (held_ordered e h.0) he) in
      let items = subst (λ x. FollowsOf works (suc n) (ev_items go (record { env = x; own = empty }) is s) (Rest (Hold e1 nothing) is) s) (found_put e env) (follow_items n go rec is (Hold e1 nothing) s (hc, empty_ordered) h.1 m) in
      one_step trees (suc n) (suc n) r (StructOf e1 is) (InStruct (Rest (Hold e1 nothing) is)) s s (omega arith) (InStruct (Rest (Hold e1 nothing) is), s, (refl, refl)) (λ t s1 st. st)
      (body_follows (suc n) (Rest (Hold e1 nothing) is) s (ev_items go (record { env = over (found_env e) env; own = empty }) is s) items)
  follow n go rec (InStruct w) env s he h m = absurd h
  follow n go rec (Try a rs) env s he h m = try_follows (suc n) go (close env a) env rs s (ev go env a s) (follow_rules n go rec rs env he h.1) (follow n go rec a env s he h.0 m)

  follow_all : (n : ℕ) (go : Go) → Going n go → (es : Exps) (env : Env) → OrderedEnv env → AllOrdered es → AllFollow (suc n) go env es
  follow_all n go rec Nil env he h = tt
  follow_all n go rec (Cons e es) env he h = ((λ s m. follow n go rec e env s he h.0 m), follow_all n go rec es env he h.1)

  follow_rules : (n : ℕ) (go : Go) → Going n go → (rs : Rules) (env : Env) → OrderedEnv env → OrderedRules rs → RulesFollow (suc n) go env rs
  follow_rules n go rec Stop env he h = tt
  follow_rules n go rec (Rule p b rs) env he h = ((λ bs s hb m. follow n go rec b (over bs env) s (over_ordered bs env hb he) h.0 m), follow_rules n go rec rs env he h.1)

  -- rows of items
  pub follow_items : (n : ℕ) (go : Go) → Going n go → (is : Items) (h : Held) (s : St) → OrderedScope (scope_of h) → OrderedItems is → OrderedMem s.mem → FollowsOf works (suc n) (ev_items go (scope_of h) is s) (Rest h is) s
  follow_items n go rec End h s hc i m =
      silent (suc n) (Done (scope_of h) s) (Rest h End) (Whole h) s s (refl, refl) (λ u s2 st. st)
      (subst (λ x. FollowsOf works (suc n) (Done (scope_of h) s) (Whole x) s) (held_scope h) (done_follows works (suc n) (scope_of h) s hc m))
  follow_items n go rec (Value f p a is) h s hc i m =
      let c = scope_of h in
      silent (suc n) (ev_items go c (Value f p a is) s) (Rest h (Value f p a is)) (Doing h f (close_pat c.env p) (close c.env a) is) s s (refl, refl) (λ u s2 st. st)
      (value_follows (suc n) go h f (close_pat c.env p) (close c.env a) is s (ev go c.env a s) i.0
      (λ bs s1 hb m1. from_held (suc n) go (with_vars bs c) is s1 (follow_items n go rec is (held (with_vars bs c)) s1 (held_scope_ordered (with_vars bs c) (vars_ordered bs c hb hc)) i.2 m1))
      (follow n go rec a c.env s hc.0 i.1 m))
  follow_items n go rec (Functions fs is) h s hc i m =
      let c = with_funs fs (scope_of h) in
      silent (suc n) (ev_items go c is s) (Rest h (Functions fs is)) (Rest (held c) is) s s (refl, refl) (λ u s2 st. st)
      (from_held (suc n) go c is s (follow_items n go rec is (held c) s (held_scope_ordered c (funs_ordered fs (scope_of h) i.0 hc)) i.1 m))
  follow_items n go rec (Exception x is) h s hc i m =
      let c = with_exn x s (scope_of h) in
      silent (suc n) (ev_items go c is (drawn x s)) (Rest h (Exception x is)) (Rest (held c) is) s (drawn x s) (refl, refl) (λ u s2 st. st)
      (from_held (suc n) go c is (drawn x s) (follow_items n go rec is (held c) (drawn x s) (held_scope_ordered c (exn_ordered x s (scope_of h) hc)) i m))
  follow_items n go rec (Alias p x is) h s hc i m =
      let b = within x (scope_of h).env in
      let c = with_struct p b (scope_of h) in
      silent (suc n) (ev_items go c is s) (Rest h (Alias p x is)) (Rest (held c) is) s s (refl, refl) (λ u s2 st. st)
      (from_held (suc n) go c is s (follow_items n go rec is (held c) s (held_scope_ordered c (struct_ordered p b (scope_of h) (λ y. hc.0 (x ++ y)) hc)) i m))
  follow_items n go rec (FunctorOf f x body is) h s hc i m =
      let c = with_functor f x body (scope_of h) in
      silent (suc n) (ev_items go c is s) (Rest h (FunctorOf f x body is)) (Rest (held c) is) s s (refl, refl) (λ u s2 st. st)
      (from_held (suc n) go c is s (follow_items n go rec is (held c) s (held_scope_ordered c (functor_ordered f x body (scope_of h) i.0 hc)) i.1 m))
  follow_items n go rec (Applied p f a is) h s hc i m =
      applied_follows n go rec h p f a is s ((scope_of h).env (functor_at f)) refl (hc.0 (functor_at f)) (λ y. hc.0 (a ++ y)) m
      (λ v s1 hv m1.
      let d = with_struct p (fields v) (scope_of h) in
      from_held (suc n) go d is s1 (follow_items n go rec is (held d) s1 (held_scope_ordered d (struct_ordered p (fields v) (scope_of h) (fields_ordered v hv) hc)) i m1))
  follow_items n go rec (Struct p items is) h s hc i m =
      let c = inside (scope_of h) in
      silent (suc n) (ev_items go (scope_of h) (Struct p items is) s) (Rest h (Struct p items is)) (Open h p (Rest (held c) items) is) s s (refl, refl) (λ u s2 st. st)
      (struct_follows (suc n) go h p (Rest (held c) items) is s (ev_items go c items s)
      (λ e s1 he m1.
      let d = with_struct p e.own (scope_of h) in
      from_held (suc n) go d is s1 (follow_items n go rec is (held d) s1 (held_scope_ordered d (struct_ordered p e.own (scope_of h) he.1 hc)) i.1 m1))
      (from_held (suc n) go c items s (follow_items n go rec items (held c) s (held_scope_ordered c (hc.0, empty_ordered)) i.0 m)))

-- each run of an ordered tree comes where its meaning says
pub follows_mean : (n : ℕ) (env : Env) (e : Exp) (s : St) → OrderedEnv env → Ordered e → OrderedMem s.mem → Follows n (mean n env e s) (close env e) s
follows_mean zero env e s he h m = record { bound = 0; comes = λ k. now (refl, omega arith); ordered = tt }
follows_mean (suc n) env e s he h m = follow n (mean n) (λ env1 e1 s1 he1 h1 m1. follows_mean n env1 e1 s1 he1 h1 m1) e env s he h m

-- and each run of an ordered row of items
pub items_follow : (n : ℕ) (c : Scope) (is : Items) (s : St) → OrderedScope c → OrderedItems is → OrderedMem s.mem → FollowsOf works n (mean_items n c is s) (Rest (held c) is) s
items_follow zero c is s hc h m = record { bound = 0; comes = λ k. now (refl, omega arith); ordered = tt }
items_follow (suc n) c is s hc h m = from_held (suc n) (mean n) c is s (follow_items n (mean n) (λ env1 e1 s1 he1 h1 m1. follows_mean n env1 e1 s1 he1 h1 m1) is (held c) s (held_scope_ordered c hc) h m)

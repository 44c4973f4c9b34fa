-- A typed tree, and a typed row of items, never comes where there is no rule.
use Rattle.std.proofs.Common.{◌≡◌, ℕ, zero, suc, inl, inr, List, ◌++◌, Option, None, refl, sym, ◌∙◌, subst}
use Rattle.run_types.proofs.Acts.{FallOk, GoOk, act_ok, bound_ok, exn_holds, exn_puts, exn_sub, exn_world, fall_ok, fn_has, group_ok, known_ok, made_ok, next_ok, no_env, ok_from, or_ok, pattern_takes, still_case, still_has, then_ok, vals_has}
use Rattle.run_types.proofs.Shapes.{whole_up}
use Rattle.run_types.proofs.Wholes.{whole_ok}
use Rattle.run_types.proofs.Grown.{all_more, binds_more, fall_more, has_more, items_more, op_up, puts_more, rules_more, val_more}
use Rattle.run_types.proofs.Scopes.{exn_scope, funs_scope, one_rule, reached_all, scope_more, struct_puts, took_ok, weaker}
use Rattle.run_types.proofs.Taken.{GivesVal}
use Rattle.run_types.specs.Safe.{GivensOk, Ok, exn_has, val_has}
use Rattle.run_types.specs.TypedItems.{scope_has}
use Rattle.run_types.specs.Types.{At, ConsT, Ctx, Given, Has, HasAll, HasFound, HasItems, HasRules, HasVal, Holds, NilT, Puts, Scheme, ScopeTy, TExn, Ty, Tys, UseAt, World, exn_ctx, inside_ty, join, joined, no_ctx, under_ty, with_struct_ty}
use Rattle.runs.proofs.Close.{matched_dom}
use Rattle.runs.proofs.Parallel.{fall}
use Rattle.runs.proofs.Rows.{still_ev}
use Rattle.runs.proofs.Still.{result}
use Rattle.runs.specs.Env.{Env, binds, close, close_funs, close_pat, close_rules, empty, first, found, found_env, group, hide, names, over, put, under, within}
use Rattle.runs.specs.Meaning.{Done, Go, More, Raised, Res, Right, Wrong, ev, ev_all, ev_items, ev_rules, fallen, mean, or_next, perform, then_do}
use Rattle.runs.specs.Names.{same}
use Rattle.runs.specs.Patterns.{matched}
use Rattle.runs.specs.Primitives.{St, act, body, drawn, next_name, unit}
use Rattle.runs.specs.Scope.{Scope, inside, with_exn, with_funs, with_struct, with_vars}
use Rattle.runs.specs.Tree.{Absent, Alias, Applied, Case, Clo, Cons, Datum, End, Exception, Exp, Exps, Fail, Fn, Found, Functions, FunctorOf, Group, InMod, InStruct, Is, Item, Items, LetMod, Lit, NewExn, Nil, NoVals, Node, Rule, Rules, Stop, Struct, StructOf, There, Try, Val, Value, Var}

-- a value in the tree, or one that is read
found_at : (w : World) (u : Ty) (g : Option Scheme) (f : Found) (o : Option Val) → (UseAt g u → At w None u o) → HasFound w (UseAt g u) u f → At w None u (first (found f) o)
found_at w u g Absent o p h = p h
found_at w u g (There v) o p h = h

-- Z only puts all functions of the block into one universe
mutual
  ev_at : (Z : Type 0) (go : Go) (l : List Given) → GoOk l go → (e : Exp) (w : World) (g : Ctx) (env : Env) (t : Ty) (s : St) → w.givens ≡ l → Puts w g no_ctx env → Has w g e t → Holds w s → Ok (val_has t) w (ev go env e s)
  ev_at Z go l gk (Is v) w g env t s wl p h hm = made_ok (val_has t) w v s h hm
  ev_at Z go l gk (Fail v) w g env t s wl p h hm = made_ok exn_has w v s h hm
  ev_at Z go l gk (Lit n) w g env t s wl p h hm = made_ok (val_has t) w (Datum n) s h hm
  ev_at Z go l gk (Var x) w g env t s wl p h hm = known_ok w t (env x) s (p x t h) hm
  ev_at Z go l gk (Fn f rs) w g env t s wl p h hm = made_ok (val_has t) w (Clo f (close_rules env rs)) s (fn_has w g env f rs t h.0 h.1 h.2 p h.3 h.4) hm
  ev_at Z go l gk (Group fs b) w g env t s wl p h hm = ev_at Z go l gk b w (join (names fs) h.0 g) (over (group (close_funs (hide (names fs) env) fs)) env) t s wl (group_ok w g h.0 env fs p h.1) h.2 hm
  ev_at Z go l gk (Node op es) w g env t s wl p h hm =
      then_ok (vals_has h.0) (val_has t) w (ev_all go env es s) (λ vs s1. perform go (act op vs s1) s1) (all_at Z go l gk es w g env h.0 s wl p h.1 hm)
      (λ k vs s1 u hv hm1. act_ok go l gk k op vs h.0 t s1 (u.givens ∙ wl) (op_up w k u op h.0 t h.2) hv hm1)
  ev_at Z go l gk (Case f a rs) w g env t s wl p (inr h) hm =
      then_ok (val_has h.0) (val_has t) w (ev go env a s) (λ v s1. ev_rules go env rs (fallen f s1) v s1) (ev_at Z go l gk a w g env h.0 s wl p h.2 hm)
      (λ k v s1 i hv hm1. whole_ok (val_has t) k go env h.0 rs (fallen f s1) v s1 (whole_up w k i h.0 rs h.1) hv (More s1)
      (rules_at Z go l gk rs k g env (λ a1. a1 ≡ h.0) t (More s1) v s1 (i.givens ∙ wl) (puts_more w k i g no_ctx env p) (rules_more w k i rs g (λ a1. a1 ≡ h.0) (λ a1. a1 ≡ h.0) (λ a1 q. q) t h.3) (λ a1 q. subst (HasVal k v) (sym q) hv) hm1 (inr tt)))
  ev_at Z go l gk (Case f a rs) w g env t s wl p (inl (hf, u, ha, inl h)) hm =
      then_ok (val_has u) (val_has t) w (ev go env a s) (λ v s1. ev_rules go env rs (fallen f s1) v s1) (ev_at Z go l gk a w g env u s wl p ha hm)
      (λ k v s1 i hv hm1. rules_at Z go l gk rs k g env (λ a1. a1 ≡ u) t (fallen f s1) v s1 (i.givens ∙ wl) (puts_more w k i g no_ctx env p) (rules_more w k i rs g (λ a1. a1 ≡ u) (λ a1. a1 ≡ u) (λ a1 q. q) t h) (λ a1 q. subst (HasVal k v) (sym q) hv) hm1
      (fall_ok (val_has t) k f rs s1 (fall_more w k i f rs hf) hm1))
  ev_at Z go l gk (Case f a rs) w g env t s wl p (inl (hf, u, ha, inr h)) hm =
      still_case (val_has t) w u (ev go env a s) (result (close env a)) s (λ v s1. ev_rules go env rs (fallen f s1) v s1) (still_ev go env a s h.0) (still_has w a g env u p h.0 ha)
      (λ v e. rules_at Z go l gk rs w g env (λ a1. Has w g a a1) t (fallen f s) v s wl p h.1 (λ a1 q. subst (GivesVal w a1) e (still_has w a g env a1 p h.0 q)) hm (fall_ok (val_has t) w f rs s hf hm))
  ev_at Z go l gk (NewExn x b) w g env t s wl p h hm =
      ok_from (val_has t) w (exn_world w h.0) (ev go (put x (next_name s) env) b (drawn x s)) (exn_sub w h.0)
      (ev_at Z go l gk b (exn_world w h.0) (join (same x) (exn_ctx h.0) g) (put x (next_name s) env) t (drawn x s) wl (exn_puts w h.0 x g env s hm p) (has_more w (exn_world w h.0) (exn_sub w h.0) b (join (same x) (exn_ctx h.0) g) t h.1) (exn_holds w h.0 x s hm))
  ev_at Z go l gk (LetMod e q is b) w g env t s wl p h hm =
      let c : Scope = record { env = over (found_env e) env; own = empty } in
      then_ok (scope_has h.2) (val_has t) w (ev_items go c is s) (λ (d : Scope) s1. ev go (under q d.own env) b s1)
      (items_at Z go l gk is w (record { env = h.0; own = no_ctx }) h.2 c s wl ((λ x u i. found_at w u (g x) (e x) (env x) (p x u) (h.1 x u i)), no_env w) h.3 hm)
      (λ k d s1 i hd hm1. ev_at Z go l gk b k (under_ty q (h.2).own g) (under q d.own env) t s1 (i.givens ∙ wl) (reached_all k q (h.2).own d.own g env hd.1 (puts_more w k i g no_ctx env p)) (has_more w k i b (under_ty q (h.2).own g) t h.4) hm1)
  ev_at Z go l gk (InMod q v b) w g env t s wl p h hm = absurd h
  ev_at Z go l gk (StructOf e is) w g env t s wl p h hm = absurd h
  ev_at Z go l gk (InStruct v) w g env t s wl p h hm = absurd h
  ev_at Z go l gk (Try a rs) w g env t s wl p h hm =
      or_ok (val_has t) w (ev go env a s) (λ v s1. ev_rules go env rs (Raised v s1) v s1) (ev_at Z go l gk a w g env t s wl p h.0 hm)
      (λ k v s1 i hv hm1. rules_at Z go l gk rs k g env (λ u. u ≡ TExn) t (Raised v s1) v s1 (i.givens ∙ wl) (puts_more w k i g no_ctx env p) (rules_more w k i rs g (λ u. u ≡ TExn) (λ u. u ≡ TExn) (λ u q. q) t h.1) (λ a1 q. subst (HasVal k v) (sym q) hv) hm1
      (inr (made_ok exn_has k v s1 hv hm1)))

  all_at : (Z : Type 0) (go : Go) (l : List Given) → GoOk l go → (es : Exps) (w : World) (g : Ctx) (env : Env) (ts : Tys) (s : St) → w.givens ≡ l → Puts w g no_ctx env → HasAll w g es ts → Holds w s → Ok (vals_has ts) w (ev_all go env es s)
  all_at Z go l gk Nil w g env NilT s wl p h hm = made_ok (vals_has NilT) w NoVals s tt hm
  all_at Z go l gk (Cons e es) w g env (ConsT t ts) s wl p h hm =
      then_ok (val_has t) (vals_has (ConsT t ts)) w (ev go env e s) (λ v s1. then_do (ev_all go env es s1) (λ vs s2. Done (Item v vs) s2)) (ev_at Z go l gk e w g env t s wl p h.0 hm)
      (λ k v s1 u hv hm1. then_ok (vals_has ts) (vals_has (ConsT t ts)) k (ev_all go env es s1) (λ vs s2. Done (Item v vs) s2) (all_at Z go l gk es k g env ts s1 (u.givens ∙ wl) (puts_more w k u g no_ctx env p) (all_more w k u es g ts h.1) hm1)
      (λ j vs s2 u2 hvs hm2. made_ok (vals_has (ConsT t ts)) j (Item v vs) s2 (val_more k j u2 v t hv, hvs) hm2))
  all_at Z go l gk _ w g env _ s wl p h hm = absurd h

  rules_at : (Z : Type 0) (go : Go) (l : List Given) → GoOk l go → (rs : Rules) (w : World) (g : Ctx) (env : Env) (A : Ty → Type 0) (t : Ty) (fall : Res Val) (v : Val) (s : St) → w.givens ≡ l → Puts w g no_ctx env → HasRules w g A rs t → ((a : Ty) → A a → HasVal w v a) → Holds w s → FallOk (val_has t) w rs fall → Ok (val_has t) w (ev_rules go env rs fall v s)
  rules_at Z go l gk Stop w g env A t fall v s wl p h each hm (inl k) = absurd k
  rules_at Z go l gk Stop w g env A t fall v s wl p h each hm (inr k) = k
  rules_at Z go l gk (Rule q b rs) w g env A t fall v s wl p h each hm (inl (inl k)) =
      next_ok (val_has t) w g h.0 env q (matched s.mem (close_pat env q) v) (λ bs. ev go (over bs env) b s) (ev_rules go env rs fall v s) p (matched_dom s.mem (close_pat env q) v)
      (bound_ok w g h.0 env A q v s.mem p h.1 each hm.cells)
      (λ bs pb. ev_at Z go l gk b w (join (binds q) h.0 g) (over bs env) t s wl pb h.2 hm)
      (inl (pattern_takes w g h.0 env A q v s.mem p h.1 each hm.cells k))
  rules_at Z go l gk (Rule q b rs) w g env A t fall v s wl p h each hm (inl (inr k)) =
      next_ok (val_has t) w g h.0 env q (matched s.mem (close_pat env q) v) (λ bs. ev go (over bs env) b s) (ev_rules go env rs fall v s) p (matched_dom s.mem (close_pat env q) v)
      (bound_ok w g h.0 env A q v s.mem p h.1 each hm.cells)
      (λ bs pb. ev_at Z go l gk b w (join (binds q) h.0 g) (over bs env) t s wl pb h.2 hm)
      (inr (rules_at Z go l gk rs w g env A t fall v s wl p h.3 each hm (inl k)))
  rules_at Z go l gk (Rule q b rs) w g env A t fall v s wl p h each hm (inr k) =
      next_ok (val_has t) w g h.0 env q (matched s.mem (close_pat env q) v) (λ bs. ev go (over bs env) b s) (ev_rules go env rs fall v s) p (matched_dom s.mem (close_pat env q) v)
      (bound_ok w g h.0 env A q v s.mem p h.1 each hm.cells)
      (λ bs pb. ev_at Z go l gk b w (join (binds q) h.0 g) (over bs env) t s wl pb h.2 hm)
      (inr (rules_at Z go l gk rs w g env A t fall v s wl p h.3 each hm (inr k)))

  items_at : (Z : Type 0) (go : Go) (l : List Given) → GoOk l go → (is : Items) (w : World) (c d : ScopeTy) (e : Scope) (s : St) → w.givens ≡ l → scope_has c w e → HasItems w c is d → Holds w s → Ok (scope_has d) w (ev_items go e is s)
  items_at Z go l gk End w c d e s wl p t hm = made_ok (scope_has d) w e s (weaker w c.env d.env e.env t.0 p.0, weaker w c.own d.own e.own t.1 p.1) hm
  items_at Z go l gk (Value f q a is) w c d e s wl p (hf, u, ha, h, inl b, t) hm =
      then_ok (val_has u) (scope_has d) w (ev go e.env a s) (λ v s1. or_next (matched s1.mem (close_pat e.env q) v) (λ bs. ev_items go (with_vars bs e) is s1) (fallen f s1)) (ev_at Z go l gk a w c.env e.env u s wl p.0 ha hm)
      (λ k v s1 i hv hm1.
      let pk = scope_more w k i c e p in
      let bk = binds_more w k i c.env (λ a1. a1 ≡ u) (λ a1. a1 ≡ u) (λ a1 x. x) q h b in
      took_ok (scope_has d) k h c e q (matched s1.mem (close_pat e.env q) v) (λ bs. ev_items go (with_vars bs e) is s1) (fallen f s1) pk (matched_dom s1.mem (close_pat e.env q) v)
      (bound_ok k c.env h e.env (λ a1. a1 ≡ u) q v s1.mem pk.0 bk (λ a1 x. subst (HasVal k v) (sym x) hv) hm1.cells)
      (λ bs pb. items_at Z go l gk is k (joined (binds q) h c) d (with_vars bs e) s1 (i.givens ∙ wl) pb (items_more w k i is (joined (binds q) h c) d t) hm1)
      (one_rule (scope_has d) k (matched s1.mem (close_pat e.env q) v) q (Is unit) (fallen f s1) (λ al. pattern_takes k c.env h e.env (λ a1. a1 ≡ u) q v s1.mem pk.0 bk (λ a1 x. subst (HasVal k v) (sym x) hv) hm1.cells al)
      (fall_ok (scope_has d) k f (Rule q (Is unit) Stop) s1 (fall_more w k i f (Rule q (Is unit) Stop) hf) hm1)))
  items_at Z go l gk (Value f q a is) w c d e s wl p (hf, u, ha, h, inr b, t) hm =
      still_case (scope_has d) w u (ev go e.env a s) (result (close e.env a)) s (λ v s1. or_next (matched s1.mem (close_pat e.env q) v) (λ bs. ev_items go (with_vars bs e) is s1) (fallen f s1)) (still_ev go e.env a s b.0) (still_has w a c.env e.env u p.0 b.0 ha)
      (λ v x.
      let each : (a1 : Ty) → Has w c.env a a1 → HasVal w v a1 = λ a1 y. subst (GivesVal w a1) x (still_has w a c.env e.env a1 p.0 b.0 y) in
      took_ok (scope_has d) w h c e q (matched s.mem (close_pat e.env q) v) (λ bs. ev_items go (with_vars bs e) is s) (fallen f s) p (matched_dom s.mem (close_pat e.env q) v)
      (bound_ok w c.env h e.env (λ a1. Has w c.env a a1) q v s.mem p.0 b.1 each hm.cells)
      (λ bs pb. items_at Z go l gk is w (joined (binds q) h c) d (with_vars bs e) s wl pb t hm)
      (one_rule (scope_has d) w (matched s.mem (close_pat e.env q) v) q (Is unit) (fallen f s) (λ al. pattern_takes w c.env h e.env (λ a1. Has w c.env a a1) q v s.mem p.0 b.1 each hm.cells al)
      (fall_ok (scope_has d) w f (Rule q (Is unit) Stop) s hf hm)))
  items_at Z go l gk (Functions fs is) w c d e s wl p t hm = items_at Z go l gk is w (joined (names fs) t.0 c) d (with_funs fs e) s wl (funs_scope w t.0 c e fs p t.1) t.2 hm
  items_at Z go l gk (Exception x is) w c d e s wl p t hm =
      ok_from (scope_has d) w (exn_world w t.0) (ev_items go (with_exn x s e) is (drawn x s)) (exn_sub w t.0)
      (items_at Z go l gk is (exn_world w t.0) (joined (same x) (exn_ctx t.0) c) d (with_exn x s e) (drawn x s) wl (exn_scope w t.0 x c e s hm p) (items_more w (exn_world w t.0) (exn_sub w t.0) is (joined (same x) (exn_ctx t.0) c) d t.1) (exn_holds w t.0 x s hm))
  items_at Z go l gk (Alias q x is) w c d e s wl p t hm =
      items_at Z go l gk is w (with_struct_ty q (λ y. c.env (x ++ y)) c) d (with_struct q (within x e.env) e) s wl (struct_puts w q (λ y. c.env (x ++ y)) (within x e.env) c e (λ y. p.0 (x ++ y)) p) t hm
  items_at Z go l gk (FunctorOf f x body is) w c d e s wl p t hm = absurd t
  items_at Z go l gk (Applied q f a is) w c d e s wl p t hm = absurd t
  items_at Z go l gk (Struct q body is) w c d e s wl p t hm =
      then_ok (scope_has t.0) (scope_has d) w (ev_items go (inside e) body s) (λ (b : Scope) s1. ev_items go (with_struct q b.own e) is s1) (items_at Z go l gk body w (inside_ty c) t.0 (inside e) s wl (p.0, no_env w) t.1 hm)
      (λ k b s1 i hb hm1.
      items_at Z go l gk is k (with_struct_ty q (t.0).own c) d (with_struct q b.own e) s1 (i.givens ∙ wl) (struct_puts k q (t.0).own b.own c e hb.1 (scope_more w k i c e p)) (items_more w k i is (with_struct_ty q (t.0).own c) d t.2) hm1)

pub ev_ok : (go : Go) (l : List Given) → GoOk l go → (e : Exp) (w : World) (g : Ctx) (env : Env) (t : Ty) (s : St) → w.givens ≡ l → Puts w g no_ctx env → Has w g e t → Holds w s → Ok (val_has t) w (ev go env e s)
ev_ok go l gk e w g env t s wl p h hm = ev_at (Unit {0}) go l gk e w g env t s wl p h hm

pub items_ok : (go : Go) (l : List Given) → GoOk l go → (is : Items) (w : World) (c d : ScopeTy) (e : Scope) (s : St) → w.givens ≡ l → scope_has c w e → HasItems w c is d → Holds w s → Ok (scope_has d) w (ev_items go e is s)
items_ok go l gk is w c d e s wl p t hm = items_at (Unit {0}) go l gk is w c d e s wl p t hm

pub mean_ok : (l : List Given) → GivensOk l → (n : ℕ) → GoOk l (mean n)
mean_ok l gl zero = record { body_ok = λ w g env e t s wl p h hm. tt; given_ok = λ w v x a r s wl hv hx hm. gl 0 w v x a r s wl hv hx hm }
mean_ok l gl (suc n) = record { body_ok = λ w g env e t s wl p h hm. ev_ok (mean n) l (mean_ok l gl n) e w g env t s wl p h hm; given_ok = λ w v x a r s wl hv hx hm. gl (suc n) w v x a r s wl hv hx hm }

pub tree_ok : (n : ℕ) (w : World) (g : Ctx) (env : Env) (e : Exp) (t : Ty) (s : St) → GivensOk w.givens → Puts w g no_ctx env → Has w g e t → Holds w s → Ok (val_has t) w (mean n env e s)
tree_ok n w g env e t s gl p h hm = (mean_ok w.givens gl n).body_ok w g env e t s refl p h hm

pub ok_right : {A : Type 0} (P : World → A → Type 0) (w : World) (r : Res A) → Ok P w r → Right r
ok_right P w (Done v s) h = tt
ok_right P w (Raised v s) h = tt
ok_right P w (More s) h = tt
ok_right P w (Wrong s) h = h

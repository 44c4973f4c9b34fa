-- Rules that take each value of a shape take each value of the type.
use Rattle.std.proofs.Common.{◌≡◌, inl, inr, Option, Some, None, refl, subst}
use Rattle.run_types.specs.Complete.{TakesOne, Took}
use Rattle.run_types.specs.Safe.{Ok}
use Rattle.run_types.specs.Types.{AllShaped, ConsT, HasVal, HasVals, NilT, Shaped, TArr, TData, TExn, TNam, TRef, TTup, Ty, Tys, Whole, World, inst_all}
use Rattle.run_types.proofs.Shapes.{takes_close}
use Rattle.runs.specs.Env.{Env, close_pat, close_rules, over}
use Rattle.runs.specs.Meaning.{Go, Res, ev, ev_rules, or_next}
use Rattle.runs.specs.Patterns.{matched}
use Rattle.runs.specs.Primitives.{St}
use Rattle.runs.specs.Tree.{Clo, Con, Datum, Exn, Item, Loc, Nam, NoVals, Prim, Rec, Rule, Rules, Stop, Tup, Val, Vals}

mutual
  pub val_shaped : (w : World) (v : Val) (t : Ty) → HasVal w v t → Shaped w v t
  val_shaped w (Datum n) t h = h
  val_shaped w (Tup vs) (TTup ts) h = vals_shaped w vs ts h
  val_shaped w (Con i vs) (TData d b us) h = (h.0, h.1, vals_shaped w vs (inst_all us h.0) h.2)
  val_shaped w (Clo f rs) (TArr a r) h = tt
  val_shaped w (Rec fs f) (TArr a r) h = tt
  val_shaped w (Prim p vs) (TArr a r) h = tt
  val_shaped w (Loc l) (TRef t) h = tt
  val_shaped w (Nam i) (TNam ts) h = tt
  val_shaped w (Exn i vs) TExn h = tt
  val_shaped w _ _ h = absurd h

  vals_shaped : (w : World) (vs : Vals) (ts : Tys) → HasVals w vs ts → AllShaped w vs ts
  vals_shaped w NoVals NilT h = tt
  vals_shaped w (Item v vs) (ConsT t ts) h = (val_shaped w v t h.0, vals_shaped w vs ts h.1)
  vals_shaped w _ _ h = absurd h

next_any : {A : Type 0} (o : Option Env) (f : Env → Res A) (q r : Res A) → Took o → or_next o f q ≡ or_next o f r
next_any None f q r h = absurd h
next_any (Some bs) f q r h = refl

pub next_each : {A : Type 0} (o : Option Env) (f : Env → Res A) (q r : Res A) → q ≡ r → or_next o f q ≡ or_next o f r
next_each None f q r h = h
next_each (Some bs) f q r h = refl

-- what comes else makes no difference where a rule takes the value
pub fall_any : (go : Go) (env : Env) (rs : Rules) (q r : Res Val) (v : Val) (s : St) → TakesOne s.mem (close_rules env rs) v → ev_rules go env rs q v s ≡ ev_rules go env rs r v s
fall_any go env Stop q r v s h = absurd h
fall_any go env (Rule p b rs) q r v s (inl h) = next_any (matched s.mem (close_pat env p) v) (λ bs. ev go (over bs env) b s) (ev_rules go env rs q v s) (ev_rules go env rs r v s) h
fall_any go env (Rule p b rs) q r v s (inr h) = next_each (matched s.mem (close_pat env p) v) (λ bs. ev go (over bs env) b s) (ev_rules go env rs q v s) (ev_rules go env rs r v s) (fall_any go env rs q r v s h)

pub whole_ok : (P : World → Val → Type 0) (w : World) (go : Go) (env : Env) (u : Ty) (rs : Rules) (q : Res Val) (v : Val) (s : St) → Whole w u rs → HasVal w v u → (r : Res Val) → Ok P w (ev_rules go env rs r v s) → Ok P w (ev_rules go env rs q v s)
whole_ok P w go env u rs q v s c h r k = subst (Ok P w) (fall_any go env rs r q v s (takes_close env s.mem rs v (c s.mem v (val_shaped w v u h)))) k

-- What comes where no rule takes the value makes no difference to rules that take each value.
use Rattle.std.proofs.Common.{◌≡◌, ℕ, zero, suc, List, refl}
use Rattle.run_types.proofs.Acts.{GoOk}
use Rattle.run_types.proofs.Sound.{ev_ok, mean_ok}
use Rattle.run_types.proofs.Wholes.{fall_any, next_each}
use Rattle.run_types.specs.Complete.{Complete, and_else}
use Rattle.run_types.specs.Safe.{GivensOk, Ok, Sub, val_has}
use Rattle.run_types.specs.Types.{Ctx, Given, Has, HasVal, Holds, Puts, Ty, World, no_ctx}
use Rattle.runs.specs.Env.{Env, close_pat, over}
use Rattle.runs.specs.Meaning.{Done, Go, More, Raised, Res, Wrong, ev, ev_rules, fallen, mean, then_do}
use Rattle.runs.specs.Patterns.{matched}
use Rattle.runs.specs.Primitives.{St}
use Rattle.runs.specs.Tree.{Case, Exp, Fall, Raises, Rule, Rules, Stop, Stuck, Val}

then_same : (w : World) (u : Ty) (r : Res Val) (f g : Val → St → Res Val) → Ok (val_has u) w r → ((k : World) (v : Val) (s : St) → Sub w k → HasVal k v u → Holds k s → f v s ≡ g v s) → then_do r f ≡ then_do r g
then_same w u (Done v s) f g h e = e h.k v s h.sub h.has h.holds
then_same w u (Raised v s) f g h e = refl
then_same w u (More s) f g h e = refl
then_same w u (Wrong s) f g h e = refl

-- so a last rule that is never reached may go
pub drop_fall : (go : Go) (l : List Given) → GoOk l go → (w : World) (g : Ctx) (env : Env) (f h : Fall) (a : Exp) (u : Ty) (rs : Rules) (s : St) → w.givens ≡ l → Puts w g no_ctx env → Has w g a u → Holds w s → Complete w env rs u → ev go env (Case f a rs) s ≡ ev go env (Case h a rs) s
drop_fall go l gk w g env f h a u rs s wl p ha hm c =
    then_same w u (ev go env a s) (λ v s1. ev_rules go env rs (fallen f s1) v s1) (λ v s1. ev_rules go env rs (fallen h s1) v s1) (ev_ok go l gk a w g env u s wl p ha hm)
    (λ k v s1 i hv hm1. fall_any go env rs (fallen f s1) (fallen h s1) v s1 (c k s1.mem v i hm1.cells hv))

pub mean_drop : (n : ℕ) (w : World) (g : Ctx) (env : Env) (f h : Fall) (a : Exp) (u : Ty) (rs : Rules) (s : St) → GivensOk w.givens → Puts w g no_ctx env → Has w g a u → Holds w s → Complete w env rs u → mean n env (Case f a rs) s ≡ mean n env (Case h a rs) s
mean_drop zero w g env f h a u rs s gl p ha hm c = refl
mean_drop (suc n) w g env f h a u rs s gl p ha hm c = drop_fall (mean n) w.givens (mean_ok w.givens gl n) w g env f h a u rs s refl p ha hm c

-- a last rule that raises, in place of what comes where no rule takes the value
last_rule : (go : Go) (env : Env) (rs : Rules) (b : Exp) (q r : Res Val) (v : Val) (s : St) → ev go env b s ≡ r → ev_rules go env (and_else rs b) q v s ≡ ev_rules go env rs r v s
last_rule go env Stop b q r v s h = h
last_rule go env (Rule p a rs) b q r v s h = next_each (matched s.mem (close_pat env p) v) (λ bs. ev go (over bs env) a s) (ev_rules go env (and_else rs b) q v s) (ev_rules go env rs r v s) (last_rule go env rs b q r v s h)

then_each : (r : Res Val) (f g : Val → St → Res Val) → ((v : Val) (s : St) → f v s ≡ g v s) → then_do r f ≡ then_do r g
then_each (Done v s) f g h = h v s
then_each (Raised v s) f g h = refl
then_each (More s) f g h = refl
then_each (Wrong s) f g h = refl

pub add_last : (go : Go) (env : Env) (a : Exp) (rs : Rules) (b : Exp) (v : Val) (s : St) → ((s1 : St) → ev go env b s1 ≡ Raised v s1) → ev go env (Case Stuck a (and_else rs b)) s ≡ ev go env (Case (Raises v) a rs) s
add_last go env a rs b v s h = then_each (ev go env a s) (λ x s1. ev_rules go env (and_else rs b) (fallen Stuck s1) x s1) (λ x s1. ev_rules go env rs (fallen (Raises v) s1) x s1) (λ x s1. last_rule go env rs b (fallen Stuck s1) (Raised v s1) x s1 (h s1))

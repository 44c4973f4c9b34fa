-- A tree into which values were put means what it means where they are read.
use Rattle.std.proofs.Common.{◌≡◌, ℕ, zero, suc, List, Option, Some, None, Bool, true, false, if◌then◌else◌, refl, sym, ap, ap₂, ◌∙◌, subst}
use Rattle.runs.proofs.Close.{Dom, binds_close, close_close_funs, close_close_rules, found_put, group_dom, hide_over, hide_same, is_some, matched_dom, names_close, over_over, pat_over, some_if, under_hidden}
use Rattle.runs.specs.Env.{Env, binds, close, close_all, close_funs, close_pat, close_rules, empty, first, found_env, group, hide, kept_env, names, over, put, put_into, through, under, var_or}
use Rattle.runs.specs.Meaning.{Done, Go, Raised, Res, ev, ev_all, ev_items, ev_rules, fallen, known, mean, or_next, or_rescue, perform, then_do}
use Rattle.runs.specs.Names.{Name, same}
use Rattle.runs.specs.Patterns.{matched}
use Rattle.runs.specs.Primitives.{St, act, drawn, next_name}
use Rattle.runs.specs.Scope.{Scope}
use Rattle.runs.specs.Tree.{Case, Clo, Cons, Exp, Exps, Fail, Fn, Funs, Group, InMod, InStruct, Is, Item, LetMod, Lit, Module, NewExn, Nil, Node, Pat, Rule, Rules, Stop, StructOf, Try, Val, Var}
use mathlib.Core.Path.{fun_ext}

-- what is bound stands over what was put in
bound_over_case : (c : Bool) (g a b : Option Val) → is_some g ≡ c → first (if c then None else a) (first g b) ≡ first g (first a b)
bound_over_case true None a b h = absurd (cc h)
bound_over_case true (Some v) a b h = refl
bound_over_case false None a b h = refl
bound_over_case false (Some v) a b h = absurd (cc h)

bound_over : (bound : Name → Bool) (g a b : Env) → ((y : Name) → is_some (g y) ≡ bound y) → over (hide bound a) (over g b) ≡ over g (over a b)
bound_over bound g a b h = fun_ext (λ y. bound_over_case (bound y) (g y) (a y) (b y) (h y))

var_known : (y : Name) (o : Option Val) (go : Go) (b : Env) (s : St) → ev go b (var_or y o) s ≡ known (first o (b y)) s
var_known y None go b s = refl
var_known y (Some v) go b s = refl

then_both : {A B : Type 0} (q r : Res A) (f g : A → St → Res B) → q ≡ r → ((a : A) (s : St) → f a s ≡ g a s) → then_do q f ≡ then_do r g
then_both q r f g e h = ap₂ (λ x y. then_do x y) e (fun_ext (λ a. fun_ext (λ s. h a s)))

or_both : (q r : Res Val) (f g : Val → St → Res Val) → q ≡ r → ((a : Val) (s : St) → f a s ≡ g a s) → or_rescue q f ≡ or_rescue r g
or_both q r f g e h = ap₂ (λ x y. or_rescue x y) e (fun_ext (λ a. fun_ext (λ s. h a s)))

next_both : (o : Option Env) (bound : Name → Bool) (f g : Env → Res Val) (q r : Res Val) → Dom o bound → ((bs : Env) → ((y : Name) → is_some (bs y) ≡ bound y) → f bs ≡ g bs) → q ≡ r → or_next o f q ≡ or_next o g r
next_both None bound f g q r d h e = e
next_both (Some bs) bound f g q r d h e = h bs d

put_dom : (x : Name) (v : Val) (y : Name) → is_some (put x v empty y) ≡ same x y
put_dom x v y = some_if (same x y) v

put_over : (x : Name) (v : Val) (env : Env) → over (put x v empty) env ≡ put x v env
put_over x v env = fun_ext (λ y. case (same x y) (env y))
  where
    case : (b : Bool) (o : Option Val) → first (if b then Some v else None) o ≡ (if b then Some v else o)
    case true o = refl
    case false o = refl

pattern_dom : (m : List Val) (env : Env) (p : Pat) (v : Val) → Dom (matched m (close_pat env p) v) (binds p)
pattern_dom m env p v = subst (λ f. Dom (matched m (close_pat env p) v) f) (fun_ext (binds_close env p)) (matched_dom m (close_pat env p) v)

mutual
  pub ev_close : (go : Go) (e : Exp) (a b : Env) (s : St) → ev go b (close a e) s ≡ ev go (over a b) e s
  ev_close go (Is v) a b s = refl
  ev_close go (Fail v) a b s = refl
  ev_close go (Lit n) a b s = refl
  ev_close go (Var y) a b s = var_known y (a y) go b s
  ev_close go (Fn f rs) a b s = ap (λ qs. Done (Clo f qs) s) (close_close_rules a b rs)
  ev_close go (Group fs e) a b s =
      let n = names fs in
      let gs = close_funs (hide n (over a b)) fs in
      let q : close_funs (hide (names (close_funs (hide n a) fs)) b) (close_funs (hide n a) fs) ≡ gs =
      ap (λ c. close_funs c (close_funs (hide n a) fs)) (hide_same (names (close_funs (hide n a) fs)) n b (names_close (hide n a) fs))
      ∙ close_close_funs (hide n a) (hide n b) fs
      ∙ ap (λ c. close_funs c fs) (hide_over n a b) in
      ap (λ (hs : Funs). ev go (over (group hs) b) (close (hide n a) e) s) q
      ∙ ev_close go e (hide n a) (over (group gs) b) s
      ∙ ap (λ c. ev go c e s) (bound_over n (group gs) a b (group_dom (hide n (over a b)) fs))
  ev_close go (Node op es) a b s = ap (λ r. then_do r (λ vs s1. perform go (act op vs s1) s1)) (ev_close_all go es a b s)
  ev_close go (Case f d rs) a b s =
      then_both (ev go b (close a d) s) (ev go (over a b) d s) (λ v s1. ev_rules go b (close_rules a rs) (fallen f s1) v s1) (λ v s1. ev_rules go (over a b) rs (fallen f s1) v s1) (ev_close go d a b s)
      (λ v s1. ev_close_rules go rs a b (fallen f s1) v s1)
  ev_close go (NewExn x e) a b s =
      let v = next_name s in
      ev_close go e (hide (same x) a) (put x v b) (drawn x s)
      ∙ ap (λ c. ev go (over (hide (same x) a) c) e (drawn x s)) (sym (put_over x v b))
      ∙ ap (λ c. ev go c e (drawn x s)) (bound_over (same x) (put x v empty) a b (put_dom x v) ∙ put_over x v (over a b))
  ev_close go (LetMod e p is t) a b s =
      then_both (ev_items go (record { env = over (found_env (put_into e a)) b; own = empty }) is s) (ev_items go (record { env = over (found_env e) (over a b); own = empty }) is s) (λ (c : Scope) s1. ev go (under p c.own b) (close (hide (through p) a) t) s1) (λ (c : Scope) s1. ev go (under p c.own (over a b)) t s1)
      (ap (λ x. ev_items go (record { env = x; own = empty }) is s) (ap (λ c. over c b) (found_put e a) ∙ over_over (found_env e) a b))
      (λ c s1. ev_close go t (hide (through p) a) (under p c.own b) s1 ∙ ap (λ x. ev go x t s1) (under_hidden p c.own a b))
  ev_close go (InMod p w t) a b s = refl
  ev_close go (StructOf e is) a b s =
      ap (λ x. then_do (ev_items go (record { env = x; own = empty }) is s) (λ (c : Scope) s1. Done (Module (kept_env c.own)) s1)) (ap (λ c. over c b) (found_put e a) ∙ over_over (found_env e) a b)
  ev_close go (InStruct w) a b s = refl
  ev_close go (Try d rs) a b s =
      or_both (ev go b (close a d) s) (ev go (over a b) d s) (λ v s1. ev_rules go b (close_rules a rs) (Raised v s1) v s1) (λ v s1. ev_rules go (over a b) rs (Raised v s1) v s1) (ev_close go d a b s)
      (λ v s1. ev_close_rules go rs a b (Raised v s1) v s1)

  ev_close_all : (go : Go) (es : Exps) (a b : Env) (s : St) → ev_all go b (close_all a es) s ≡ ev_all go (over a b) es s
  ev_close_all go Nil a b s = refl
  ev_close_all go (Cons e es) a b s =
      then_both (ev go b (close a e) s) (ev go (over a b) e s) (λ v s1. then_do (ev_all go b (close_all a es) s1) (λ vs s2. Done (Item v vs) s2)) (λ v s1. then_do (ev_all go (over a b) es s1) (λ vs s2. Done (Item v vs) s2)) (ev_close go e a b s)
      (λ v s1. ap (λ r. then_do r (λ vs s2. Done (Item v vs) s2)) (ev_close_all go es a b s1))

  ev_close_rules : (go : Go) (rs : Rules) (a b : Env) (r : Res Val) (v : Val) (s : St) → ev_rules go b (close_rules a rs) r v s ≡ ev_rules go (over a b) rs r v s
  ev_close_rules go Stop a b r v s = refl
  ev_close_rules go (Rule p e rs) a b r v s =
      ap (λ q. or_next (matched s.mem q v) (λ bs. ev go (over bs b) (close (hide (binds p) a) e) s) (ev_rules go b (close_rules a rs) r v s)) (pat_over a b p)
      ∙ next_both (matched s.mem (close_pat (over a b) p) v) (binds p) (λ bs. ev go (over bs b) (close (hide (binds p) a) e) s) (λ bs. ev go (over bs (over a b)) e s) (ev_rules go b (close_rules a rs) r v s) (ev_rules go (over a b) rs r v s)
      (pattern_dom s.mem (over a b) p v)
      (λ bs d. ev_close go e (hide (binds p) a) (over bs b) s ∙ ap (λ c. ev go c e s) (bound_over (binds p) bs a b d))
      (ev_close_rules go rs a b r v s)

-- so at each n
pub mean_close : (n : ℕ) (e : Exp) (a b : Env) (s : St) → mean n b (close a e) s ≡ mean n (over a b) e s
mean_close zero e a b s = refl
mean_close (suc n) e a b s = ev_close (mean n) e a b s

-- A row of parts follows its evaluation.
use Rattle.std.proofs.Common.{◌≡◌, ℕ, suc, ◌+◌, ◌≤◌, inl, inr, Option, Some, None, true, refl, sym, ap, ap₂, ◌∙◌, subst, subst₂, arith}
use Rattle.runs.proofs.Follow.{Going, act_follows}
use Rattle.runs.proofs.Inevitable.{inev_at, inev_bind, inev_map}
use Rattle.runs.proofs.Keep.{act_ordered, all_ordered_close, pure_ordered}
use Rattle.runs.proofs.Machines.{CanStep, Follows, Goal, Inev, done_follows, goal_from, goal_later, one_step, trees, wrong_follows}
use Rattle.runs.proofs.Parallel.{close_plug, fall, parallel, plug, plug_still, plug_weights, settle}
use Rattle.runs.proofs.Still.{item_of, pure_act, pure_of, result, results, stills_close, weights}
use Rattle.runs.specs.Env.{Env, close, close_all, var_or}
use Rattle.runs.specs.Meaning.{Done, Go, More, Raised, Res, Wrong, ev, ev_all, known, perform, then_do}
use Rattle.runs.specs.Names.{Name}
use Rattle.runs.specs.Ordered.{AllOrdered, AllStill, OneActive, Ordered, OrderedEnv, OrderedMem, OrderedOpt, OrderedVal, OrderedVals, Still}
use Rattle.runs.specs.Primitives.{St, act, finished, gives, pure, pure_val}
use Rattle.runs.specs.Steps.{Step}
use Rattle.runs.specs.Tree.{Cons, Exp, Exps, Fail, Fn, Is, Item, Lit, Nil, NoVals, Node, Op, Val, Vals, Var}

abbrev of_opts : Option Vals → St → Res Vals
of_opts None s = Wrong s
of_opts (Some v) s = Done v s

abbrev glue : Vals → Val → Vals → Vals
glue NoVals v ws = Item v ws
glue (Item u vs) v ws = Item u (glue vs v ws)

-- what a row gives, of which one part is not still
abbrev around : Option Vals → Res Val → Option Vals → St → Res Vals
around None r p s = Wrong s
around (Some vs) r p s = then_do r (λ v s1. then_do (of_opts p s1) (λ ws s2. Done (glue vs v ws) s2))

then_ext : {A B : Type 0} (r : Res A) (f g : A → St → Res B) → ((a : A) (s : St) → f a s ≡ g a s) → then_do r f ≡ then_do r g
then_ext (Done a s) f g h = h a s
then_ext (Raised v s) f g h = refl
then_ext (More s) f g h = refl
then_ext (Wrong s) f g h = refl

gives_known : (go : Go) (o : Option Val) (s : St) → perform go (gives o s) s ≡ known o s
gives_known go None s = refl
gives_known go (Some v) s = refl

pure_opt : (go : Go) (op : Op) (o : Option Vals) (s : St) → pure op ≡ true → then_do (of_opts o s) (λ vs s1. perform go (act op vs s1) s1) ≡ known (pure_of op o) s
pure_opt go op None s h = refl
pure_opt go op (Some vs) s h = ap (λ o. perform go o s) (pure_act op vs s h) ∙ gives_known go (pure_val op vs) s

item_opt : (v : Val) (p : Option Vals) (s : St) → then_do (of_opts p s) (λ vs s2. Done (Item v vs) s2) ≡ of_opts (item_of (Some v) p) s
item_opt v None s = refl
item_opt v (Some vs) s = refl

cons_opt : (go : Go) (env : Env) (o : Option Val) (es : Exps) (s : St) (p : Option Vals) → ((s1 : St) → ev_all go env es s1 ≡ of_opts p s1) → then_do (known o s) (λ v s1. then_do (ev_all go env es s1) (λ vs s2. Done (Item v vs) s2)) ≡ of_opts (item_of o p) s
cons_opt go env None es s p h = refl
cons_opt go env (Some v) es s p h = ap (λ r. then_do r (λ vs s2. Done (Item v vs) s2)) (h s) ∙ item_opt v p s

var_result : (y : Name) (o : Option Val) (s : St) → known o s ≡ known (result (var_or y o)) s
var_result y None s = refl
var_result y (Some v) s = refl

mutual
  pub still_ev : (go : Go) (env : Env) (e : Exp) (s : St) → Still e → ev go env e s ≡ known (result (close env e)) s
  still_ev go env (Is v) s h = refl
  still_ev go env (Lit n) s h = refl
  still_ev go env (Var x) s h = var_result x (env x) s
  still_ev go env (Fn f rs) s h = refl
  still_ev go env (Node op es) s h = ap (λ r. then_do r (λ vs s1. perform go (act op vs s1) s1)) (stills_ev go env es s h.1) ∙ pure_opt go op (results (close_all env es)) s h.0
  still_ev go env _ s h = absurd h

  pub stills_ev : (go : Go) (env : Env) (es : Exps) (s : St) → AllStill es → ev_all go env es s ≡ of_opts (results (close_all env es)) s
  stills_ev go env Nil s h = refl
  stills_ev go env (Cons e es) s h =
      ap (λ r. then_do r (λ v s1. then_do (ev_all go env es s1) (λ vs s2. Done (Item v vs) s2))) (still_ev go env e s h.0)
      ∙ cons_opt go env (result (close env e)) es s (results (close_all env es)) (λ s1. stills_ev go env es s1 h.1)

after_opt : (u : Val) (vs : Vals) (v : Val) (p : Option Vals) (s : St) → then_do (then_do (of_opts p s) (λ ws s2. Done (glue vs v ws) s2)) (λ us s2. Done (Item u us) s2) ≡ then_do (of_opts p s) (λ ws s2. Done (glue (Item u vs) v ws) s2)
after_opt u vs v None s = refl
after_opt u vs v (Some ws) s = refl

after_around : (u : Val) (o : Option Vals) (r : Res Val) (p : Option Vals) (s : St) → then_do (around o r p s) (λ us s2. Done (Item u us) s2) ≡ around (item_of (Some u) o) r p s
after_around u None r p s = refl
after_around u (Some vs) (Done v s1) p s = after_opt u vs v p s1
after_around u (Some vs) (Raised v s1) p s = refl
after_around u (Some vs) (More s1) p s = refl
after_around u (Some vs) (Wrong s1) p s = refl

first_opt : (go : Go) (env : Env) (a : Option Val) (o : Option Vals) (r : Res Val) (p : Option Vals) (es : Exps) (s : St) → ev_all go env es s ≡ around o r p s → then_do (known a s) (λ u s1. then_do (ev_all go env es s1) (λ us s2. Done (Item u us) s2)) ≡ around (item_of a o) r p s
first_opt go env None o r p es s h = refl
first_opt go env (Some u) o r p es s h = ap (λ q. then_do q (λ us s2. Done (Item u us) s2)) h ∙ after_around u o r p s

pub plug_ev : (go : Go) (env : Env) (pre : Exps) (e : Exp) (post : Exps) (s : St) → AllStill pre → AllStill post → ev_all go env (plug pre e post) s ≡ around (results (close_all env pre)) (ev go env e s) (results (close_all env post)) s
plug_ev go env Nil e post s hp hq =
    then_ext (ev go env e s) (λ v s1. then_do (ev_all go env post s1) (λ vs s2. Done (Item v vs) s2)) (λ v s1. then_do (of_opts (results (close_all env post)) s1) (λ ws s2. Done (Item v ws) s2))
    (λ v s1. ap (λ r. then_do r (λ vs s2. Done (Item v vs) s2)) (stills_ev go env post s1 hq))
plug_ev go env (Cons a pre) e post s hp hq =
    ap (λ r. then_do r (λ u s1. then_do (ev_all go env (plug pre e post) s1) (λ us s2. Done (Item u us) s2))) (still_ev go env a s hp.0)
    ∙ first_opt go env (result (close env a)) (results (close_all env pre)) (ev go env e s) (results (close_all env post)) (plug pre e post) s (plug_ev go env pre e post s hp.1 hq)

abbrev opt_glue : Option Vals → Val → Option Vals → Option Vals
opt_glue None v p = None
opt_glue (Some vs) v None = None
opt_glue (Some vs) v (Some ws) = Some (glue vs v ws)

glue_first : (v : Val) (p : Option Vals) → item_of (Some v) p ≡ opt_glue (Some NoVals) v p
glue_first v None = refl
glue_first v (Some ws) = refl

glue_more : (a : Option Val) (o : Option Vals) (v : Val) (p : Option Vals) → item_of a (opt_glue o v p) ≡ opt_glue (item_of a o) v p
glue_more None o v p = refl
glue_more (Some u) None v p = refl
glue_more (Some u) (Some vs) v None = refl
glue_more (Some u) (Some vs) v (Some ws) = refl

plug_glue : (pre : Exps) (v : Val) (post : Exps) → results (plug pre (Is v) post) ≡ opt_glue (results pre) v (results post)
plug_glue Nil v post = glue_first v (results post)
plug_glue (Cons a pre) v post = ap (item_of (result a)) (plug_glue pre v post) ∙ glue_more (result a) (results pre) v (results post)

pub plug_results : (pre : Exps) (v : Val) (post : Exps) (vs ws : Vals) → results pre ≡ Some vs → results post ≡ Some ws → results (plug pre (Is v) post) ≡ Some (glue vs v ws)
plug_results pre v post vs ws hp hq = plug_glue pre v post ∙ ap₂ (λ o p. opt_glue o v p) hp hq

-- the values of ordered still parts are ordered
abbrev OrderedOpts : Option Vals → Type 0
OrderedOpts None = Unit {0}
OrderedOpts (Some v) = OrderedVals v

pure_of_ordered : (op : Op) (o : Option Vals) → OrderedOpts o → OrderedOpt (pure_of op o)
pure_of_ordered op None h = tt
pure_of_ordered op (Some vs) h = pure_ordered op vs h

item_ordered : (o : Option Val) (p : Option Vals) → OrderedOpt o → OrderedOpts p → OrderedOpts (item_of o p)
item_ordered None p h g = tt
item_ordered (Some v) None h g = tt
item_ordered (Some v) (Some vs) h g = (h, g)

mutual
  result_ordered : (e : Exp) → Ordered e → OrderedOpt (result e)
  result_ordered (Is v) h = h
  result_ordered (Lit n) h = tt
  result_ordered (Fn f rs) h = h
  result_ordered (Node op es) h = pure_of_ordered op (results es) (results_ordered es h.1)
  result_ordered _ h = tt

  results_ordered : (es : Exps) → AllOrdered es → OrderedOpts (results es)
  results_ordered Nil h = tt
  results_ordered (Cons e es) h = item_ordered (result e) (results es) (result_ordered e h.0) (results_ordered es h.1)

glue_ordered : (vs : Vals) (v : Val) (ws : Vals) → OrderedVals vs → OrderedVal v → OrderedVals ws → OrderedVals (glue vs v ws)
glue_ordered NoVals v ws h hv g = (hv, g)
glue_ordered (Item u vs) v ws h hv g = (h.0, glue_ordered vs v ws h.1 hv g)

-- each part follows
abbrev pub AllFollow : ℕ → Go → Env → Exps → Type 0
AllFollow n go env Nil = Unit {0}
AllFollow n go env (Cons e es) = ((s : St) → OrderedMem s.mem → Follows n (ev go env e s) (close env e) s) × AllFollow n go env es

pub data Row (n : ℕ) (go : Go) (env : Env) (es : Exps) : Type 0 where
  Quiet : AllStill es → Row n go env es
  Busy : (pre : Exps) (e : Exp) (post : Exps) → es ≡ plug pre e post → AllStill pre → AllStill post → AllOrdered pre → AllOrdered post → ((s : St) → OrderedMem s.mem → Follows n (ev go env e s) (close env e) s) → Row n go env es

row_more : (n : ℕ) (go : Go) (env : Env) (e : Exp) (es : Exps) → Still e → Ordered e → Row n go env es → Row n go env (Cons e es)
row_more n go env e es h ho (Quiet q) = Quiet (h, q)
row_more n go env e es h ho (Busy pre a post q hp hq op oq f) = Busy (Cons e pre) a post (ap (Cons e) q) (h, hp) hq (ho, op) oq f

pub row : (n : ℕ) (go : Go) (env : Env) (es : Exps) → OneActive es → AllOrdered es → AllFollow n go env es → Row n go env es
row n go env Nil h ho f = Quiet tt
row n go env (Cons e es) (inl h) ho f = row_more n go env e es h.0 ho.0 (row n go env es h.1 ho.1 f.1)
row n go env (Cons e es) (inr h) ho f = Busy Nil e es refl tt h tt ho.1 f.0

goal_up : (n k0 k1 : ℕ) (r : Res Val) (k : ℕ) (t : Exp) (s : St) → k0 ≤ k1 → Goal n k1 r k t s → Goal n k0 r k t s
goal_up n k0 k1 r k t s le g = goal_from trees n n k0 k1 r k t s le (omega arith) g

-- from a row of still parts, through its values
still_row : (n : ℕ) (op : Op) (es : Exps) (vs : Vals) (s : St) (r : Res Val) (w k0 k : ℕ) → weights es ≤ w → k0 ≤ k → AllStill es → results es ≡ Some vs → (f : Follows n r (Node op (finished vs)) s) → Inev (Goal n k0 r) (w + f.bound) k (Node op es) s
still_row n op es vs s r w k0 k le lk hs q f =
    inev_bind f.bound (λ k1 t s1 a. inev_at (Goal n k0 r) f.bound k1 t (Node op (finished vs)) s s1 a.is a.same (inev_map (λ k2 t2 s2 g. goal_up n k0 k1 r k2 t2 s2 (omega (arith, lk, a.since)) g) (f.comes k1)))
    (settle w op es vs s k k le (omega arith) hs q)

busy_follows : (n : ℕ) (go : Go) (op : Op) (pre : Exps) (e : Exp) (post : Exps) (s : St) (o : Option Vals) (r : Res Val) (p : Option Vals) → Going n go → results pre ≡ o → results post ≡ p → AllStill pre → AllStill post → OrderedOpts o → OrderedOpts p → Follows (suc n) r e s → Follows (suc n) (then_do (around o r p s) (λ vs s1. perform go (act op vs s1) s1)) (Node op (plug pre e post)) s
busy_follows n go op pre e post s None r p rec qo qp hp hq oo op' f = wrong_follows trees (suc n) (Node op (plug pre e post)) s s
busy_follows n go op pre e post s (Some vs) (Done v s1) None rec qo qp hp hq oo op' f = wrong_follows trees (suc n) (Node op (plug pre e post)) s s1
busy_follows n go op pre e post s (Some vs) (Done v s1) (Some ws) rec qo qp hp hq oo op' f =
    let us = glue vs v ws in
    let a = act_follows n go op us s1 (act op us s1) rec refl (act_ordered op us s1 (glue_ordered vs v ws oo f.ordered.0 op') f.ordered.1) in
    let w = weights pre + weights post in
    let h = f.bound + weights pre + weights post in
    record {
      bound = h + (w + a.bound);
      comes = λ k. inev_bind (w + a.bound)
          (λ k1 t s2 b.
          let le : weights (plug b.pre1 (Is v) b.post1) ≤ w = omega (arith, plug_weights b.pre1 (Is v) b.post1, b.less_pre, b.less_post) in
          inev_at (Goal (suc n) k (perform go (act op us s1) s1)) (w + a.bound) k1 t (Node op (plug b.pre1 (Is v) b.post1)) s1 s2 (b.is ∙ ap (λ y. Node op (plug b.pre1 y b.post1)) b.at.0) b.at.1
          (still_row (suc n) op (plug b.pre1 (Is v) b.post1) us s1 (perform go (act op us s1) s1) w k k1 le b.at.2 (plug_still b.pre1 (Is v) b.post1 b.still_pre tt b.still_post) (plug_results b.pre1 v b.post1 vs ws (b.same_pre ∙ qo) (b.same_post ∙ qp)) a))
          (parallel h f.bound op pre post (Goal (suc n) k (Done v s1)) k e s (λ k1 t s2 g. goal_later trees (suc n) k (Done v s1) k1 t s2 g) (omega arith) hp hq (f.comes k));
      ordered = a.ordered;
    }
busy_follows n go op pre e post s (Some vs) (Raised v s1) p rec qo qp hp hq oo op' f =
    let w = suc (weights pre + weights post) in
    let h = f.bound + weights pre + weights post in
    record {
      bound = h + w;
      comes = λ k. inev_bind w
          (λ k1 t s2 b.
          inev_at (Goal (suc n) k (Raised v s1)) w k1 t (Node op (plug b.pre1 (Fail v) b.post1)) s1 s2 (b.is ∙ ap (λ y. Node op (plug b.pre1 y b.post1)) b.at.0) b.at.1
          (inev_map (λ k2 t2 s3 z. (z.is, z.same, omega (arith, z.since, b.at.2))) (fall w op b.pre1 b.post1 v s1 k1 k1 (omega (arith, b.less_pre, b.less_post)) (omega arith) b.still_pre b.still_post)))
          (parallel h f.bound op pre post (Goal (suc n) k (Raised v s1)) k e s (λ k1 t s2 g. goal_later trees (suc n) k (Raised v s1) k1 t s2 g) (omega arith) hp hq (f.comes k));
      ordered = f.ordered;
    }
busy_follows n go op pre e post s (Some vs) (More s1) p rec qo qp hp hq oo op' f =
    let h = f.bound + weights pre + weights post in
    record {
      bound = h;
      comes = λ k. inev_map (λ k1 t s2 b. b.at)
          (parallel h f.bound op pre post (Goal (suc n) k (More s1)) k e s (λ k1 t s2 g. goal_later trees (suc n) k (More s1) k1 t s2 g) (omega arith) hp hq (f.comes k));
      ordered = tt;
    }
busy_follows n go op pre e post s (Some vs) (Wrong s1) p rec qo qp hp hq oo op' f = wrong_follows trees (suc n) (Node op (plug pre e post)) s s1

quiet_follows : (n : ℕ) (go : Go) (op : Op) (es : Exps) (s : St) (o : Option Vals) → Going n go → results es ≡ o → AllStill es → OrderedOpts o → OrderedMem s.mem → Follows (suc n) (then_do (of_opts o s) (λ vs s1. perform go (act op vs s1) s1)) (Node op es) s
quiet_follows n go op es s None rec q hs ho hm = wrong_follows trees (suc n) (Node op es) s s
quiet_follows n go op es s (Some vs) rec q hs ho hm =
    let a = act_follows n go op vs s (act op vs s) rec refl (act_ordered op vs s ho hm) in
    record {
      bound = weights es + a.bound;
      comes = λ k. still_row (suc n) op es vs s (perform go (act op vs s) s) (weights es) k k (omega arith) (omega arith) hs q a;
      ordered = a.ordered;
    }

pub row_follows : (n : ℕ) (go : Go) (env : Env) (op : Op) (es : Exps) (s : St) → Going n go → OrderedEnv env → AllOrdered es → OrderedMem s.mem → Row (suc n) go env es → Follows (suc n) (then_do (ev_all go env es s) (λ vs s1. perform go (act op vs s1) s1)) (Node op (close_all env es)) s
row_follows n go env op es s rec he ho hm (Quiet q) =
    subst (λ r. Follows (suc n) (then_do r (λ vs s1. perform go (act op vs s1) s1)) (Node op (close_all env es)) s) (sym (stills_ev go env es s q))
    (quiet_follows n go op (close_all env es) s (results (close_all env es)) rec refl (stills_close env es q) (results_ordered (close_all env es) (all_ordered_close env es he ho)) hm)
row_follows n go env op es s rec he ho hm (Busy pre e post q hp hq op' oq f) =
    let pre1 = close_all env pre in
    let post1 = close_all env post in
    subst (λ (x : Exps). Follows (suc n) (then_do (ev_all go env x s) (λ vs s1. perform go (act op vs s1) s1)) (Node op (close_all env x)) s) (sym q)
    (subst₂ (λ r x. Follows (suc n) (then_do r (λ vs s1. perform go (act op vs s1) s1)) (Node op x) s) (sym (plug_ev go env pre e post s hp hq)) (sym (close_plug env pre e post))
    (busy_follows n go op pre1 (close env e) post1 s (results pre1) (ev go env e s) (results post1) rec refl refl (stills_close env pre hp) (stills_close env post hq) (results_ordered pre1 (all_ordered_close env pre he op')) (results_ordered post1 (all_ordered_close env post he oq)) (f s hm)))

pub var_follows : (n : ℕ) (y : Name) (o : Option Val) (s : St) → OrderedOpt o → OrderedMem s.mem → Follows n (known o s) (var_or y o) s
var_follows n y None s h m = wrong_follows trees n (Var y) s s
var_follows n y (Some v) s h m = done_follows trees n v s h m

-- a tree that makes a value at once
pub made : (n : ℕ) (e : Exp) (v : Val) (s : St) → CanStep e s → ((t : Exp) (s1 : St) → Step e s t s1 → (t ≡ Is v) × (s1 ≡ s)) → OrderedVal v → OrderedMem s.mem → Follows n (Done v s) e s
made n e v s c only h m = one_step trees n n (Done v s) e (Is v) s s (omega arith) c only (done_follows trees n v s h m)

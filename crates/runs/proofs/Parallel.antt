-- A part beside still ones.
use Rattle.std.proofs.Common.{◌≡◌, ℕ, zero, suc, ◌+◌, ◌<◌, ◌≤◌, ◌⊎◌, inl, inr, Some, refl, sym, ap, ◌∙◌, subst, arith}
use Rattle.runs.proofs.Inevitable.{inev_at, inev_map, later, now}
use Rattle.runs.proofs.Machines.{CanStep, Inev}
use Rattle.runs.proofs.Still.{CanStepIn, finished_stuck, no_fail, parts_go, results, results_finished, some_vals, still_parts, weight, weights}
use Rattle.runs.specs.Env.{Env, close, close_all}
use Rattle.runs.specs.Ordered.{AllStill, Still}
use Rattle.runs.specs.Primitives.{St, finished}
use Rattle.runs.specs.Steps.{HasFail, Step, StepIn}
use Rattle.runs.specs.Tree.{Cons, Exp, Exps, Fail, Is, Item, Nil, NoVals, Node, Op, Val, Vals}

-- a row with e in its midst
abbrev pub plug : Exps → Exp → Exps → Exps
plug Nil e post = Cons e post
plug (Cons a pre) e post = Cons a (plug pre e post)

abbrev head_or : Exp → Exps → Exp
head_or d Nil = d
head_or d (Cons e es) = e

abbrev tail_of : Exps → Exps
tail_of Nil = Nil
tail_of (Cons e es) = es

-- which part of the row took the step
pub data Which (pre : Exps) (e : Exp) (post : Exps) (s : St) (fs : Exps) (s1 : St) : Type 0 where
  Before : (pre1 : Exps) → StepIn pre s pre1 s1 → fs ≡ plug pre1 e post → Which pre e post s fs s1
  Here : (e1 : Exp) → Step e s e1 s1 → fs ≡ plug pre e1 post → Which pre e post s fs s1
  After : (post1 : Exps) → StepIn post s post1 s1 → fs ≡ plug pre e post1 → Which pre e post s fs s1

which_more : (a : Exp) (pre : Exps) (e : Exp) (post : Exps) (s : St) (fs : Exps) (gs : Exps) (s1 : St) → fs ≡ Cons a gs → Which pre e post s gs s1 → Which (Cons a pre) e post s fs s1
which_more a pre e post s fs gs s1 q (Before pre1 st r) = Before (Cons a pre1) (inr (pre1, st, refl)) (q ∙ ap (Cons a) r)
which_more a pre e post s fs gs s1 q (Here e1 st r) = Here e1 st (q ∙ ap (Cons a) r)
which_more a pre e post s fs gs s1 q (After post1 st r) = After post1 st (q ∙ ap (Cons a) r)

pub plug_step : (pre : Exps) (e : Exp) (post : Exps) (s : St) (fs : Exps) (s1 : St) → StepIn (plug pre e post) s fs s1 → Which pre e post s fs s1
plug_step Nil e post s fs s1 (inl h) = Here h.0 h.1 h.2
plug_step Nil e post s fs s1 (inr h) = After h.0 h.1 h.2
plug_step (Cons a pre) e post s fs s1 (inl h) = Before (Cons h.0 pre) (inl (h.0, h.1, refl)) h.2
plug_step (Cons a pre) e post s fs s1 (inr h) = which_more a pre e post s fs h.0 s1 h.2 (plug_step pre e post s h.0 s1 h.1)

pub plug_can : (pre : Exps) (e : Exp) (post : Exps) (s : St) → CanStep e s → CanStepIn (plug pre e post) s
plug_can Nil e post s c = (Cons c.0 post, c.1, inl (c.0, c.2, refl))
plug_can (Cons a pre) e post s c = let r = plug_can pre e post s c in (Cons a r.0, r.1, inr (r.0, r.2, refl))

pub plug_fail : (pre : Exps) (e : Exp) (post : Exps) (v : Val) → AllStill pre → AllStill post → HasFail (plug pre e post) v → e ≡ Fail v
plug_fail Nil e post v hp hq (inl f) = f
plug_fail Nil e post v hp hq (inr f) = absurd (no_fail post v hq f)
plug_fail (Cons a pre) e post v hp hq (inl f) = absurd (subst Still f hp.0)
plug_fail (Cons a pre) e post v hp hq (inr f) = plug_fail pre e post v hp.1 hq f

pub plug_has : (pre : Exps) (post : Exps) (v : Val) → HasFail (plug pre (Fail v) post) v
plug_has Nil post v = inl refl
plug_has (Cons a pre) post v = inr (plug_has pre post v)

pub plug_finished : (pre : Exps) (e : Exp) (post : Exps) (vs : Vals) → plug pre e post ≡ finished vs → (v : Val) × (e ≡ Is v)
plug_finished Nil e post NoVals q = absurd (cc q)
plug_finished Nil e post (Item v vs) q = (v, ap (head_or e) q)
plug_finished (Cons a pre) e post NoVals q = absurd (cc q)
plug_finished (Cons a pre) e post (Item v vs) q = plug_finished pre e post vs (ap tail_of q)

pub plug_still : (pre : Exps) (e : Exp) (post : Exps) → AllStill pre → Still e → AllStill post → AllStill (plug pre e post)
plug_still Nil e post hp h hq = (h, hq)
plug_still (Cons a pre) e post hp h hq = (hp.0, plug_still pre e post hp.1 h hq)

pub plug_weights : (pre : Exps) (e : Exp) (post : Exps) → weights (plug pre e post) ≡ weights pre + weight e + weights post
plug_weights Nil e post = omega arith
plug_weights (Cons a pre) e post = omega (arith, plug_weights pre e post)

-- the row, with the still parts somewhere on their way
pub record Beside (op : Op) (pre post : Exps) (P : ℕ → Exp → St → Type 0) (k : ℕ) (t : Exp) (s : St) : Type 0 where
  pub pre1 : Exps
  pub e1 : Exp
  pub post1 : Exps
  pub is : t ≡ Node op (plug pre1 e1 post1)
  pub still_pre : AllStill pre1
  pub still_post : AllStill post1
  pub less_pre : weights pre1 ≤ weights pre
  pub less_post : weights post1 ≤ weights post
  pub same_pre : results pre1 ≡ results pre
  pub same_post : results post1 ≡ results post
  pub at : P k e1 s

beside_pre : (op : Op) (pre pre1 post : Exps) (P : ℕ → Exp → St → Type 0) (k : ℕ) (t : Exp) (s : St) → weights pre1 ≤ weights pre → results pre1 ≡ results pre → Beside op pre1 post P k t s → Beside op pre post P k t s
beside_pre op pre pre1 post P k t s le q b = record { pre1 = b.pre1; e1 = b.e1; post1 = b.post1; is = b.is; still_pre = b.still_pre; still_post = b.still_post; less_pre = omega (arith, b.less_pre); less_post = b.less_post; same_pre = b.same_pre ∙ q; same_post = b.same_post; at = b.at }

beside_post : (op : Op) (pre post post1 : Exps) (P : ℕ → Exp → St → Type 0) (k : ℕ) (t : Exp) (s : St) → weights post1 ≤ weights post → results post1 ≡ results post → Beside op pre post1 P k t s → Beside op pre post P k t s
beside_post op pre post post1 P k t s le q b = record { pre1 = b.pre1; e1 = b.e1; post1 = b.post1; is = b.is; still_pre = b.still_pre; still_post = b.still_post; less_pre = b.less_pre; less_post = omega (arith, b.less_post); same_pre = b.same_pre; same_post = b.same_post ∙ q; at = b.at }

abbrev Again : ℕ → Op → (ℕ → Exp → St → Type 0) → Type 0
Again h op P = (a k : ℕ) (pre post : Exps) (e : Exp) (s : St) → a + weights pre + weights post ≤ h → AllStill pre → AllStill post → Inev P a k e s → Inev (Beside op pre post P) h k (Node op (plug pre e post)) s

abbrev Mono : (ℕ → Exp → St → Type 0) → Type 0
Mono P = (k : ℕ) (e : Exp) (s : St) → P k e s → P (suc k) e s

by : (h a j : ℕ) (op : Op) (pre post : Exps) (P : ℕ → Exp → St → Type 0) (k : ℕ) (e : Exp) (s : St) → Again h op P → a + weights pre + weights post ≤ suc h → AllStill pre → AllStill post → j < a → Inev P a (suc k) e s → ((t : Exp) (s1 : St) → Step e s t s1 → Inev P j (suc k) t s1) → (fs : Exps) (t : Exp) (s1 : St) → t ≡ Node op fs → Which pre e post s fs s1 → Inev (Beside op pre post P) h (suc k) t s1
by h a j op pre post P k e s rec le hp hq lt i g fs t s1 q (Before pre1 st r) =
    let m = still_parts pre s pre1 s1 hp st in
    let n = rec a (suc k) pre1 post e s (omega (arith, m.less)) m.still hq i in
    inev_at _ h (suc k) t (Node op (plug pre1 e post)) s s1 (q ∙ ap (Node op) r) m.same
    (inev_map (λ k1 t1 s2 b. beside_pre op pre pre1 post P k1 t1 s2 (omega (arith, m.less)) m.result b) n)
by h a j op pre post P k e s rec le hp hq lt i g fs t s1 q (Here e1 st r) =
    let n = rec j (suc k) pre post e1 s1 (omega arith) hp hq (g e1 s1 st) in
    inev_at _ h (suc k) t (Node op (plug pre e1 post)) s1 s1 (q ∙ ap (Node op) r) refl n
by h a j op pre post P k e s rec le hp hq lt i g fs t s1 q (After post1 st r) =
    let m = still_parts post s post1 s1 hq st in
    let n = rec a (suc k) pre post1 e s (omega (arith, m.less)) hp m.still i in
    inev_at _ h (suc k) t (Node op (plug pre e post1)) s s1 (q ∙ ap (Node op) r) m.same
    (inev_map (λ k1 t1 s2 b. beside_post op pre post post1 P k1 t1 s2 (omega (arith, m.less)) m.result b) n)

each : (h : ℕ) (op : Op) (pre post : Exps) (Q : ℕ → Exp → St → Type 0) (k : ℕ) (e : Exp) (s : St) → AllStill pre → AllStill post → CanStep e s → ((fs : Exps) (t : Exp) (s1 : St) → t ≡ Node op fs → Which pre e post s fs s1 → Inev Q h k t s1) → (t : Exp) (s1 : St) → Step (Node op (plug pre e post)) s t s1 → Inev Q h k t s1
each h op pre post Q k e s hp hq c go t s1 (inl st) = go st.0 t s1 st.2 (plug_step pre e post s st.0 s1 st.1)
each h op pre post Q k e s hp hq c go t s1 (inr (inl st)) = absurd (subst (λ x. CanStep x s) (plug_fail pre e post st.0 hp hq st.1) c).2
each h op pre post Q k e s hp hq c go t s1 (inr (inr st)) = let f = plug_finished pre e post st.0 st.2 in absurd (subst (λ x. CanStep x s) f.1 c).2

pub inev_late : {P : ℕ → Exp → St → Type 0} → Mono P → {h k : ℕ} {e : Exp} {s : St} → Inev P h k e s → Inev P h (suc k) e s
inev_late m (now p) = now (m _ _ _ p)
inev_late m (later j lt c g) = later j lt c (λ t s1 st. inev_late m (g t s1 st))

-- what the part comes to, the row comes to with it
pub parallel : (h a : ℕ) (op : Op) (pre post : Exps) (P : ℕ → Exp → St → Type 0) (k : ℕ) (e : Exp) (s : St) → Mono P → a + weights pre + weights post ≤ h → AllStill pre → AllStill post → Inev P a k e s → Inev (Beside op pre post P) h k (Node op (plug pre e post)) s
parallel h a op pre post P k e s mono le hp hq (now p) =
    now (record { pre1 = pre; e1 = e; post1 = post; is = refl; still_pre = hp; still_post = hq; less_pre = omega arith; less_post = omega arith; same_pre = refl; same_post = refl; at = p })
parallel zero a op pre post P k e s mono le hp hq (later j lt c g) = absurd (omega arith)
parallel (suc h) a op pre post P k e s mono le hp hq (later j lt c g) =
    let up = plug_can pre e post s c in
    let i : Inev P a k e s = later j lt c g in
    later h (omega arith) (Node op up.0, up.1, inl (up.0, up.2, refl))
    (each h op pre post (Beside op pre post P) (suc k) e s hp hq c
    (by h a j op pre post P k e s (λ a1 k1 pre1 post1 e1 s1 le1 hp1 hq1 i1. parallel h a1 op pre1 post1 P k1 e1 s1 mono le1 hp1 hq1 i1) le hp hq lt (inev_late mono i) g))

-- all parts still: the row comes to its values
pub record AtValues (op : Op) (vs : Vals) (s : St) (k0 : ℕ) (k : ℕ) (t : Exp) (s1 : St) : Type 0 where
  pub is : t ≡ Node op (finished vs)
  pub same : s1 ≡ s
  pub since : k0 ≤ k

at_values : (op : Op) (es : Exps) (vs ws : Vals) (s : St) (k0 k : ℕ) → k0 ≤ k → results es ≡ Some vs → es ≡ finished ws → AtValues op vs s k0 k (Node op es) s
at_values op es vs ws s k0 k le r q =
    let same = some_vals vs ws (sym r ∙ ap results q ∙ results_finished ws) in
    record { is = ap (Node op) (q ∙ ap finished (sym same)); same = refl; since = le }

settle_zero : (op : Op) (es : Exps) (vs : Vals) (s : St) (k0 k : ℕ) → weights es ≤ 0 → k0 ≤ k → AllStill es → results es ≡ Some vs → ((ws : Vals) × (es ≡ finished ws)) ⊎ CanStepIn es s → Inev (AtValues op vs s k0) 0 k (Node op es) s
settle_zero op es vs s k0 k le lk hs r (inl f) = now (at_values op es vs f.0 s k0 k lk r f.1)
settle_zero op es vs s k0 k le lk hs r (inr c) = absurd (let m = still_parts es s c.0 c.1 hs c.2 in omega (arith, m.less))

settle_step : (h : ℕ) (op : Op) (es : Exps) (vs : Vals) (s : St) (k0 k : ℕ) → ((fs : Exps) → weights fs ≤ h → AllStill fs → results fs ≡ Some vs → Inev (AtValues op vs s k0) h (suc k) (Node op fs) s) → weights es ≤ suc h → AllStill es → results es ≡ Some vs → CanStepIn es s → (t : Exp) (s1 : St) → Step (Node op es) s t s1 → Inev (AtValues op vs s k0) h (suc k) t s1
settle_step h op es vs s k0 k rec le hs r c t s1 (inl st) =
    let m = still_parts es s st.0 s1 hs st.1 in
    inev_at _ h (suc k) t (Node op st.0) s s1 st.2 m.same (rec st.0 (omega (arith, m.less)) m.still (m.result ∙ r))
settle_step h op es vs s k0 k rec le hs r c t s1 (inr (inl st)) = absurd (no_fail es st.0 hs st.1)
settle_step h op es vs s k0 k rec le hs r c t s1 (inr (inr st)) = absurd (finished_stuck st.0 s c.0 c.1 (subst (λ x. StepIn x s c.0 c.1) st.2 c.2))

settle_suc : (h : ℕ) (op : Op) (es : Exps) (vs : Vals) (s : St) (k0 k : ℕ) → ((fs : Exps) → weights fs ≤ h → AllStill fs → results fs ≡ Some vs → Inev (AtValues op vs s k0) h (suc k) (Node op fs) s) → weights es ≤ suc h → k0 ≤ k → AllStill es → results es ≡ Some vs → ((ws : Vals) × (es ≡ finished ws)) ⊎ CanStepIn es s → Inev (AtValues op vs s k0) (suc h) k (Node op es) s
settle_suc h op es vs s k0 k rec le lk hs r (inl f) = now (at_values op es vs f.0 s k0 k lk r f.1)
settle_suc h op es vs s k0 k rec le lk hs r (inr c) = later h (omega arith) (Node op c.0, c.1, inl (c.0, c.2, refl)) (settle_step h op es vs s k0 k rec le hs r c)

pub settle : (h : ℕ) (op : Op) (es : Exps) (vs : Vals) (s : St) (k0 k : ℕ) → weights es ≤ h → k0 ≤ k → AllStill es → results es ≡ Some vs → Inev (AtValues op vs s k0) h k (Node op es) s
settle zero op es vs s k0 k le lk hs r = settle_zero op es vs s k0 k le lk hs r (parts_go es s vs hs r)
settle (suc h) op es vs s k0 k le lk hs r =
    settle_suc h op es vs s k0 k (λ fs lf hf rf. settle h op fs vs s k0 (suc k) lf (omega arith) hf rf) le lk hs r (parts_go es s vs hs r)

-- a raised part ends the row
pub record AtFail (v : Val) (s : St) (k0 : ℕ) (k : ℕ) (t : Exp) (s1 : St) : Type 0 where
  pub is : t ≡ Fail v
  pub same : s1 ≡ s
  pub since : k0 ≤ k

abbrev pub fail_or : Val → Exp → Val
fail_or d (Fail v) = v
fail_or d _ = d

fall_by : (h : ℕ) (op : Op) (pre post : Exps) (v : Val) (s : St) (k0 k : ℕ) → ((pre1 post1 : Exps) → weights pre1 + weights post1 < h → AllStill pre1 → AllStill post1 → Inev (AtFail v s k0) h (suc k) (Node op (plug pre1 (Fail v) post1)) s) → weights pre + weights post < suc h → AllStill pre → AllStill post → (fs : Exps) (t : Exp) (s1 : St) → t ≡ Node op fs → Which pre (Fail v) post s fs s1 → Inev (AtFail v s k0) h (suc k) t s1
fall_by h op pre post v s k0 k rec le hp hq fs t s1 q (Before pre1 st r) =
    let m = still_parts pre s pre1 s1 hp st in
    inev_at _ h (suc k) t (Node op (plug pre1 (Fail v) post)) s s1 (q ∙ ap (Node op) r) m.same (rec pre1 post (omega (arith, m.less)) m.still hq)
fall_by h op pre post v s k0 k rec le hp hq fs t s1 q (Here e1 st r) = absurd st
fall_by h op pre post v s k0 k rec le hp hq fs t s1 q (After post1 st r) =
    let m = still_parts post s post1 s1 hq st in
    inev_at _ h (suc k) t (Node op (plug pre (Fail v) post1)) s s1 (q ∙ ap (Node op) r) m.same (rec pre post1 (omega (arith, m.less)) hp m.still)

is_not_fail : (v w : Val) → Fail v ≡ Is w → ⊥
is_not_fail v w q = cc q

fall_step : (h : ℕ) (op : Op) (pre post : Exps) (v : Val) (s : St) (k0 k : ℕ) → k0 ≤ k → AllStill pre → AllStill post → ((fs : Exps) (t : Exp) (s1 : St) → t ≡ Node op fs → Which pre (Fail v) post s fs s1 → Inev (AtFail v s k0) h (suc k) t s1) → (t : Exp) (s1 : St) → Step (Node op (plug pre (Fail v) post)) s t s1 → Inev (AtFail v s k0) h (suc k) t s1
fall_step h op pre post v s k0 k lk hp hq go t s1 (inl st) = go st.0 t s1 st.2 (plug_step pre (Fail v) post s st.0 s1 st.1)
fall_step h op pre post v s k0 k lk hp hq go t s1 (inr (inl st)) =
    let same : v ≡ st.0 = ap (fail_or v) (plug_fail pre (Fail v) post st.0 hp hq st.1) in
    now (record { is = st.2 ∙ ap Fail (sym same); same = st.3; since = omega arith })
fall_step h op pre post v s k0 k lk hp hq go t s1 (inr (inr st)) = let f = plug_finished pre (Fail v) post st.0 st.2 in absurd (is_not_fail v f.0 f.1)

pub fall : (h : ℕ) (op : Op) (pre post : Exps) (v : Val) (s : St) (k0 k : ℕ) → weights pre + weights post < h → k0 ≤ k → AllStill pre → AllStill post → Inev (AtFail v s k0) h k (Node op (plug pre (Fail v) post)) s
fall zero op pre post v s k0 k le lk hp hq = absurd (omega arith)
fall (suc h) op pre post v s k0 k le lk hp hq =
    later h (omega arith) (Fail v, s, inr (inl (v, plug_has pre post v, refl, refl)))
    (fall_step h op pre post v s k0 k lk hp hq
    (fall_by h op pre post v s k0 k (λ pre1 post1 l1 h1 h2. fall h op pre1 post1 v s k0 (suc k) l1 (omega arith) h1 h2) le hp hq))

pub close_plug : (env : Env) (pre : Exps) (e : Exp) (post : Exps) → close_all env (plug pre e post) ≡ plug (close_all env pre) (close env e) (close_all env post)
close_plug env Nil e post = refl
close_plug env (Cons a pre) e post = ap (Cons (close env a)) (close_plug env pre e post)

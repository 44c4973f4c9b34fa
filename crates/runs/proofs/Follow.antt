-- Every run follows the evaluation.
use Rattle.std.proofs.Common.{◌≡◌, ℕ, suc, inl, inr, Option, Some, None, refl, sym, ap, ◌∙◌, subst, arith}
use Rattle.runs.proofs.Close.{Dom, binds_close, close_bound, matched_dom}
use Rattle.runs.proofs.Keep.{OrderedMatch, OrderedNext, matched_ordered}
use Rattle.runs.proofs.Machines.{CanStep, Follows, Frame, done_follows, lost_follows, no_step, one_step, then_done, then_more, then_raised, trees, wrong_follows}
use Rattle.runs.proofs.Parallel.{fail_or, fall}
use Rattle.runs.proofs.Still.{finished_stuck, no_fail, results, results_finished, some_next, some_vals, still_finished}
use Rattle.runs.specs.Env.{Env, binds, close, close_pat, close_rules, hide, over}
use Rattle.runs.specs.Meaning.{Done, Go, More, Raised, Res, Wrong, ev, ev_rules, fallen, or_next, or_rescue, perform, then_do}
use Rattle.runs.specs.Ordered.{Ordered, OrderedEnv, OrderedFall, OrderedMem, OrderedVal}
use Rattle.runs.specs.Patterns.{fails, matched, pick, taken}
use Rattle.runs.specs.Primitives.{Calls, Gives, Next, St, Throws, act, finished, state, tree}
use Rattle.runs.specs.Steps.{Step}
use Rattle.runs.specs.Tree.{Case, Exp, Fail, Fall, Is, Node, Op, Pat, Raises, Rule, Rules, Stop, Stuck, Try, Val, Vals}

abbrev pub is_or : Val → Exp → Val
is_or d (Is v) = v
is_or d _ = d

pub is_inj : (v w : Val) → Is v ≡ Is w → w ≡ v
is_inj v w q = sym (ap (is_or v) q)

pub fail_inj : (v w : Val) → Fail v ≡ Fail w → w ≡ v
fail_inj v w q = sym (ap (fail_or v) q)

pub is_fail : (v w : Val) → Is v ≡ Fail w → ⊥
is_fail v w q = cc q

pub fail_is : (v w : Val) → Fail v ≡ Is w → ⊥
fail_is v w q = cc q

-- evaluations of bodies
abbrev pub Going : ℕ → Go → Type 0
Going n go = (env : Env) (e : Exp) (s : St) → OrderedEnv env → Ordered e → OrderedMem s.mem → Follows n (go env e s) (close env e) s

-- what the rules leave: a tree, or nothing where the evaluation is wrong
abbrev pub PickFollows : ℕ → Res Val → Option Exp → St → Type 0
PickFollows n r None s = r ≡ Wrong s
PickFollows n r (Some t) s = Follows n r t s

-- each body follows, whatever its pattern took
abbrev pub RulesFollow : ℕ → Go → Env → Rules → Type 0
RulesFollow n go env Stop = Unit {0}
RulesFollow n go env (Rule p b rs) = ((bs : Env) (s : St) → OrderedEnv bs → OrderedMem s.mem → Follows n (ev go (over bs env) b s) (close (over bs env) b) s) × RulesFollow n go env rs

taken_follows : (n : ℕ) (go : Go) (env : Env) (p : Pat) (b : Exp) (s : St) (o : Option Env) (r : Res Val) (q : Option Exp) → Dom o (binds (close_pat env p)) → OrderedMatch o → OrderedMem s.mem → ((bs : Env) (s1 : St) → OrderedEnv bs → OrderedMem s1.mem → Follows n (ev go (over bs env) b s1) (close (over bs env) b) s1) → PickFollows n r q s → PickFollows n (or_next o (λ bs. ev go (over bs env) b s) r) (taken o (close (hide (binds p) env) b) q) s
taken_follows n go env p b s None r q d ho hm f g = g
taken_follows n go env p b s (Some bs) r q d ho hm f g =
    subst (λ y. Follows n (ev go (over bs env) b s) y s) (sym (close_bound (binds p) bs env b (λ y. d y ∙ binds_close env p y))) (f bs s ho hm)

rules_follow : (n : ℕ) (go : Go) (env : Env) (rs : Rules) (fall : Res Val) (q : Option Exp) (v : Val) (s : St) → RulesFollow n go env rs → OrderedVal v → OrderedMem s.mem → PickFollows n fall q s → PickFollows n (ev_rules go env rs fall v s) (pick s.mem (close_rules env rs) v q) s
rules_follow n go env Stop fall q v s f hv hm h = h
rules_follow n go env (Rule p b rs) fall q v s f hv hm h =
    taken_follows n go env p b s (matched s.mem (close_pat env p) v) (ev_rules go env rs fall v s) (pick s.mem (close_rules env rs) v q)
    (matched_dom s.mem (close_pat env p) v) (matched_ordered s.mem (close_pat env p) v hm hv) hm f.0 (rules_follow n go env rs fall q v s f.1 hv hm h)

fall_follows : (n : ℕ) (f : Fall) (s : St) → OrderedFall f → OrderedMem s.mem → PickFollows n (fallen f s) (fails f) s
fall_follows n Stuck s h hm = refl
fall_follows n (Raises v) s h hm = lost_follows trees n v s h hm

abbrev exp_or : Exp → Option Exp → Exp
exp_or d None = d
exp_or d (Some t) = t

-- a tree whose one step is what the rules leave
picked_step : (n : ℕ) (r : Res Val) (e : Exp) (s : St) (o : Option Exp) → ((t : Exp) → o ≡ Some t → Step e s t s) → ((t : Exp) (s1 : St) → Step e s t s1 → (o ≡ Some t) × (s1 ≡ s)) → PickFollows n r o s → Follows n r e s
picked_step n r e s None up only h = subst (λ x. Follows n x e s) (sym h) (wrong_follows trees n e s s)
picked_step n r e s (Some t) up only h = one_step trees n n r e t s s (omega arith) (t, s, up t refl) (λ t1 s1 st. let o = only t1 s1 st in (sym (ap (exp_or t) o.0), o.1)) h

-- a match
case_only : (f : Fall) (rs : Rules) (a : Exp) (s : St) (t : Exp) (s1 : St) → CanStep a s → Step (Case f a rs) s t s1 → (u : Exp) × Step a s u s1 × (t ≡ Case f u rs)
case_only f rs a s t s1 c (inl st) = st
case_only f rs a s t s1 c (inr (inl st)) = absurd (no_step Step a (Is st.0) s c st.1 (λ d. d.2))
case_only f rs a s t s1 c (inr (inr st)) = absurd (no_step Step a (Fail st.0) s c st.1 (λ d. d.2))

case_frame : (f : Fall) (rs : Rules) → Frame Step Step (λ a. Case f a rs)
case_frame f rs = record { up = λ a s t s1 st. inl (t, st, refl); only = case_only f rs }

case_is_only : (f : Fall) (rs : Rules) (v : Val) (s : St) (t : Exp) (s1 : St) → Step (Case f (Is v) rs) s t s1 → (pick s.mem rs v (fails f) ≡ Some t) × (s1 ≡ s)
case_is_only f rs v s t s1 (inl st) = absurd st.1
case_is_only f rs v s t s1 (inr (inl st)) = (ap (λ w. pick s.mem rs w (fails f)) (sym (is_inj v st.0 st.1)) ∙ st.2, st.3)
case_is_only f rs v s t s1 (inr (inr st)) = absurd (is_fail v st.0 st.1)

case_fail_only : (f : Fall) (rs : Rules) (v : Val) (s : St) (t : Exp) (s1 : St) → Step (Case f (Fail v) rs) s t s1 → (t ≡ Fail v) × (s1 ≡ s)
case_fail_only f rs v s t s1 (inl st) = absurd st.1
case_fail_only f rs v s t s1 (inr (inl st)) = absurd (fail_is v st.0 st.1)
case_fail_only f rs v s t s1 (inr (inr st)) = (st.2 ∙ ap Fail (fail_inj v st.0 st.1), st.3)

pub case_follows : (n : ℕ) (go : Go) (f : Fall) (a : Exp) (env : Env) (rs : Rules) (s : St) (r : Res Val) → OrderedFall f → RulesFollow n go env rs → Follows n r a s → Follows n (then_do r (λ v s1. ev_rules go env rs (fallen f s1) v s1)) (Case f a (close_rules env rs)) s
case_follows n go f a env rs s (Done v s1) hf rec fo =
    let qs = close_rules env rs in
    then_done trees trees n (λ y. Case f y qs) a s v s1 _ (case_frame f qs) fo
    (picked_step n (ev_rules go env rs (fallen f s1) v s1) (Case f (Is v) qs) s1 (pick s1.mem qs v (fails f)) (λ t h. inr (inl (v, refl, h, refl))) (case_is_only f qs v s1)
    (rules_follow n go env rs (fallen f s1) (fails f) v s1 rec fo.ordered.0 fo.ordered.1 (fall_follows n f s1 hf fo.ordered.1)))
case_follows n go f a env rs s (Raised v s1) hf rec fo =
    let qs = close_rules env rs in
    then_raised trees trees n (λ y. Case f y qs) a s v s1 _ (case_frame f qs) fo
    (one_step trees n n (Raised v s1) (Case f (Fail v) qs) (Fail v) s1 s1 (omega arith) (Fail v, s1, inr (inr (v, refl, refl, refl))) (case_fail_only f qs v s1) (lost_follows trees n v s1 fo.ordered.0 fo.ordered.1))
case_follows n go f a env rs s (More s1) hf rec fo = then_more trees trees n (λ y. Case f y (close_rules env rs)) a s s1 (case_frame f (close_rules env rs)) fo
case_follows n go f a env rs s (Wrong s1) hf rec fo = wrong_follows trees n (Case f a (close_rules env rs)) s s1

-- a handler
try_only : (rs : Rules) (a : Exp) (s : St) (t : Exp) (s1 : St) → CanStep a s → Step (Try a rs) s t s1 → (u : Exp) × Step a s u s1 × (t ≡ Try u rs)
try_only rs a s t s1 c (inl st) = st
try_only rs a s t s1 c (inr (inl st)) = absurd (no_step Step a (Is st.0) s c st.1 (λ d. d.2))
try_only rs a s t s1 c (inr (inr st)) = absurd (no_step Step a (Fail st.0) s c st.1 (λ d. d.2))

try_frame : (rs : Rules) → Frame Step Step (λ a. Try a rs)
try_frame rs = record { up = λ a s t s1 st. inl (t, st, refl); only = try_only rs }

try_is_only : (v : Val) (rs : Rules) (s : St) (t : Exp) (s1 : St) → Step (Try (Is v) rs) s t s1 → (t ≡ Is v) × (s1 ≡ s)
try_is_only v rs s t s1 (inl st) = absurd st.1
try_is_only v rs s t s1 (inr (inl st)) = (st.2 ∙ ap Is (is_inj v st.0 st.1), st.3)
try_is_only v rs s t s1 (inr (inr st)) = absurd (is_fail v st.0 st.1)

try_fail_only : (v : Val) (rs : Rules) (s : St) (t : Exp) (s1 : St) → Step (Try (Fail v) rs) s t s1 → (pick s.mem rs v (Some (Fail v)) ≡ Some t) × (s1 ≡ s)
try_fail_only v rs s t s1 (inl st) = absurd st.1
try_fail_only v rs s t s1 (inr (inl st)) = absurd (fail_is v st.0 st.1)
try_fail_only v rs s t s1 (inr (inr st)) = (ap (λ w. pick s.mem rs w (Some (Fail w))) (sym (fail_inj v st.0 st.1)) ∙ st.2, st.3)

pub try_follows : (n : ℕ) (go : Go) (a : Exp) (env : Env) (rs : Rules) (s : St) (r : Res Val) → RulesFollow n go env rs → Follows n r a s → Follows n (or_rescue r (λ v s1. ev_rules go env rs (Raised v s1) v s1)) (Try a (close_rules env rs)) s
try_follows n go a env rs s (Done v s1) rec f =
    let qs = close_rules env rs in
    then_done trees trees n (λ y. Try y qs) a s v s1 _ (try_frame qs) f
    (one_step trees n n (Done v s1) (Try (Is v) qs) (Is v) s1 s1 (omega arith) (Is v, s1, inr (inl (v, refl, refl, refl))) (try_is_only v qs s1) (done_follows trees n v s1 f.ordered.0 f.ordered.1))
try_follows n go a env rs s (Raised v s1) rec f =
    let qs = close_rules env rs in
    then_raised trees trees n (λ y. Try y qs) a s v s1 _ (try_frame qs) f
    (picked_step n (ev_rules go env rs (Raised v s1) v s1) (Try (Fail v) qs) s1 (pick s1.mem qs v (Some (Fail v))) (λ t h. inr (inr (v, refl, h, refl))) (try_fail_only v qs s1)
    (rules_follow n go env rs (Raised v s1) (Some (Fail v)) v s1 rec f.ordered.0 f.ordered.1 (lost_follows trees n v s1 f.ordered.0 f.ordered.1)))
try_follows n go a env rs s (More s1) rec f = then_more trees trees n (λ y. Try y (close_rules env rs)) a s s1 (try_frame (close_rules env rs)) f
try_follows n go a env rs s (Wrong s1) rec f = wrong_follows trees n (Try a (close_rules env rs)) s s1

-- an operator with its finished parts
act_only : (op : Op) (vs : Vals) (s : St) (m : Next) → act op vs s ≡ Some m → (t : Exp) (s1 : St) → Step (Node op (finished vs)) s t s1 → (t ≡ tree m) × (s1 ≡ state m)
act_only op vs s m q t s1 (inl st) = absurd (finished_stuck vs s st.0 s1 st.1)
act_only op vs s m q t s1 (inr (inl st)) = absurd (no_fail (finished vs) st.0 (still_finished vs) st.1)
act_only op vs s m q t s1 (inr (inr st)) =
    let same : vs ≡ st.0 = some_vals vs st.0 (sym (results_finished vs) ∙ ap results st.2 ∙ results_finished st.0) in
    let e : st.1 ≡ m = some_next st.1 m (sym st.3 ∙ ap (λ w. act op w s) (sym same) ∙ q) in
    (st.4 ∙ ap tree e, st.5 ∙ ap state e)

perform_follows : (n : ℕ) (go : Go) (m : Next) (s0 : St) → Going n go → OrderedNext (Some m) → Follows n (perform go (Some m) s0) (tree m) (state m)
perform_follows n go (Gives v s) s0 rec h = done_follows trees n v s h.0 h.1
perform_follows n go (Throws v s) s0 rec h = lost_follows trees n v s h.0 h.1
perform_follows n go (Calls env b s) s0 rec h = rec env b s h.0 h.1 h.2

pub act_follows : (n : ℕ) (go : Go) (op : Op) (vs : Vals) (s : St) (o : Option Next) → Going n go → act op vs s ≡ o → OrderedNext o → Follows (suc n) (perform go o s) (Node op (finished vs)) s
act_follows n go op vs s None rec q h = wrong_follows trees (suc n) (Node op (finished vs)) s s
act_follows n go op vs s (Some m) rec q h =
    one_step trees (suc n) n (perform go (Some m) s) (Node op (finished vs)) (tree m) s (state m) (omega arith) (tree m, state m, inr (inr (vs, m, refl, q, refl, refl))) (λ t s2 st. act_only op vs s m q t s2 st) (perform_follows n go m s rec h)

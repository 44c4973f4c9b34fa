-- A row of items follows its evaluation.
use Rattle.std.proofs.Common.{◌≡◌, ℕ, suc, inl, inr, List, [], ◌∷◌, Option, Some, None, refl, sym, ap, ◌∙◌, subst, arith}
use Rattle.runs.proofs.Close.{close_under, scope_held}
use Rattle.runs.proofs.Follow.{Going, fail_inj, fail_is, is_fail, is_inj}
use Rattle.runs.proofs.Inevitable.{CanOf}
use Rattle.runs.proofs.Keep.{OrderedMatch, empty_ordered, funs_ordered_close, group_ordered, held_ordered, hide_ordered, if_opt, kept_ordered, matched_ordered, over_ordered, put_ordered}
use Rattle.runs.proofs.Machines.{CanStep, Follows, FollowsOf, Frame, done_follows, follows_down, lost_follows, no_step, one_step, then_done, then_more, then_raised, trees, works, wrong_follows}
use Rattle.runs.specs.Env.{Env, close, empty, fields, found_env, functor_at, hide, kept_env, names, nothing, put, reached, through, under, within}
use Rattle.runs.specs.Meaning.{Done, Go, More, Raised, Res, Wrong, applied, ev, ev_items, fallen, or_next, then_do}
use Rattle.runs.specs.Names.{Name, Part, same_part}
use Rattle.runs.specs.Ordered.{OrderedEnv, OrderedFall, OrderedFuns, OrderedItems, OrderedMem, OrderedOpt, OrderedScope, OrderedVal}
use Rattle.runs.specs.Patterns.{matched}
use Rattle.runs.specs.Primitives.{St, body, next_name}
use Rattle.runs.specs.Scope.{Scope, held, scope_of, with_exn, with_functor, with_funs, with_struct, with_vars}
use Rattle.runs.specs.Steps.{Step, WorkStep, opened, settled}
use Rattle.runs.specs.Tree.{Applied, Doing, Exp, Fail, Fall, Functor, Funs, Held, InMod, InStruct, Is, Items, Lost, Making, Module, Open, Pat, Raises, Rest, StructOf, Stuck, Val, Whole, Work}

pub vars_ordered : (bs : Env) (c : Scope) → OrderedEnv bs → OrderedScope c → OrderedScope (with_vars bs c)
vars_ordered bs c hb h = (over_ordered bs c.env hb h.0, over_ordered bs c.own hb h.1)

pub funs_ordered : (fs : Funs) (c : Scope) → OrderedFuns fs → OrderedScope c → OrderedScope (with_funs fs c)
funs_ordered fs c hf h = vars_ordered _ c (group_ordered _ (funs_ordered_close (hide (names fs) c.env) fs (hide_ordered (names fs) c.env h.0) hf)) h

pub exn_ordered : (x : Name) (s : St) (c : Scope) → OrderedScope c → OrderedScope (with_exn x s c)
exn_ordered x s c h = (put_ordered x (next_name s) c.env tt h.0, put_ordered x (next_name s) c.own tt h.1)

pub reached_ordered : (p : Part) (b : Env) (y : Name) (o : Option Val) → OrderedEnv b → OrderedOpt o → OrderedOpt (reached p b y o)
reached_ordered p b [] o hb h = h
reached_ordered p b (q ∷ []) o hb h = h
reached_ordered p b (q ∷ r ∷ x) o hb h = if_opt (same_part p q) (b (r ∷ x)) o (hb (r ∷ x)) h

pub struct_ordered : (p : Part) (b : Env) (c : Scope) → OrderedEnv b → OrderedScope c → OrderedScope (with_struct p b c)
struct_ordered p b c hb h = ((λ y. reached_ordered p b y (c.env y) hb (h.0 y)), (λ y. reached_ordered p b y (c.own y) hb (h.1 y)))

-- the tree of a value on its way
doing_only : (h : Held) (f : Fall) (p : Pat) (is : Items) (a : Exp) (s : St) (t : Work) (s1 : St) → CanStep a s → WorkStep (Doing h f p a is) s t s1 → (b : Exp) × Step a s b s1 × (t ≡ Doing h f p b is)
doing_only h f p is a s t s1 can (inl st) = st
doing_only h f p is a s t s1 can (inr (inl st)) = absurd (no_step Step a (Is st.0) s can st.1 (λ d. d.2))
doing_only h f p is a s t s1 can (inr (inr st)) = absurd (no_step Step a (Fail st.0) s can st.1 (λ d. d.2))

doing_frame : (h : Held) (f : Fall) (p : Pat) (is : Items) → Frame Step WorkStep (λ a. Doing h f p a is)
doing_frame h f p is = record { up = λ a s t s1 st. inl (t, st, refl); only = doing_only h f p is }

doing_is_only : (h : Held) (f : Fall) (p : Pat) (is : Items) (v : Val) (s : St) (t : Work) (s1 : St) → WorkStep (Doing h f p (Is v) is) s t s1 → (settled h f is (matched s.mem p v) ≡ Some t) × (s1 ≡ s)
doing_is_only h f p is v s t s1 (inl st) = absurd st.1
doing_is_only h f p is v s t s1 (inr (inl st)) = (ap (λ w. settled h f is (matched s.mem p w)) (sym (is_inj v st.0 st.1)) ∙ st.2, st.3)
doing_is_only h f p is v s t s1 (inr (inr st)) = absurd (is_fail v st.0 st.1)

doing_fail_only : (h : Held) (f : Fall) (p : Pat) (is : Items) (v : Val) (s : St) (t : Work) (s1 : St) → WorkStep (Doing h f p (Fail v) is) s t s1 → (t ≡ Lost v) × (s1 ≡ s)
doing_fail_only h f p is v s t s1 (inl st) = absurd st.1
doing_fail_only h f p is v s t s1 (inr (inl st)) = absurd (fail_is v st.0 st.1)
doing_fail_only h f p is v s t s1 (inr (inr st)) = (st.2 ∙ ap Lost (fail_inj v st.0 st.1), st.3)

abbrev work_or : Work → Option Work → Work
work_or d None = d
work_or d (Some t) = t

-- the one step that binds the value, where the pattern took these values, or none
bound_step : (n : ℕ) (h : Held) (f : Fall) (p : Pat) (is : Items) (v : Val) (s : St) (o : Option Work) (r : Res Scope) → settled h f is (matched s.mem p v) ≡ o → ((t : Work) → o ≡ Some t → FollowsOf works n r t s) → (o ≡ None → r ≡ Wrong s) → FollowsOf works n r (Doing h f p (Is v) is) s
bound_step n h f p is v s None r q g w = subst (λ x. FollowsOf works n x (Doing h f p (Is v) is) s) (sym (w refl)) (wrong_follows works n (Doing h f p (Is v) is) s s)
bound_step n h f p is v s (Some t) r q g w =
    one_step works n n r (Doing h f p (Is v) is) t s s (omega arith) (t, s, inr (inl (v, refl, q, refl)))
    (λ t1 s1 st. let o = doing_is_only h f p is v s t1 s1 st in (sym (ap (work_or t) (sym q ∙ o.0)), o.1)) (g t refl)

some_work : (n : ℕ) (r : Res Scope) (s : St) (u t : Work) → FollowsOf works n r u s → Some u ≡ Some t → FollowsOf works n r t s
some_work n r s u t f q = subst (λ x. FollowsOf works n r x s) (ap (work_or u) q) f

-- each row that goes on with these values follows its evaluation
abbrev pub RowFollows : ℕ → Go → Scope → Items → St → Type 0
RowFollows n go c is s = FollowsOf works n (ev_items go c is s) (Rest (held c) is) s

-- what is left of it
left : (n : ℕ) (go : Go) (h : Held) (f : Fall) (is : Items) (s : St) (o : Option Env) (t : Work) → OrderedFall f → OrderedMem s.mem → ((bs : Env) → o ≡ Some bs → RowFollows n go (with_vars bs (scope_of h)) is s) → settled h f is o ≡ Some t → FollowsOf works n (or_next o (λ bs. ev_items go (with_vars bs (scope_of h)) is s) (fallen f s)) t s
left n go h Stuck is s None t hf m rec q = absurd (cc q)
left n go h (Raises v) is s None t hf m rec q = some_work n (Raised v s) s (Lost v) t (lost_follows works n v s hf m) q
left n go h f is s (Some bs) t hf m rec q = some_work n (ev_items go (with_vars bs (scope_of h)) is s) s (Rest (held (with_vars bs (scope_of h))) is) t (rec bs refl) q

left_none : (go : Go) (h : Held) (f : Fall) (is : Items) (s : St) (o : Option Env) → settled h f is o ≡ None → or_next o (λ bs. ev_items go (with_vars bs (scope_of h)) is s) (fallen f s) ≡ Wrong s
left_none go h Stuck is s None q = refl
left_none go h (Raises v) is s None q = absurd (cc q)
left_none go h f is s (Some bs) q = absurd (cc q)

matched_some : (m : List Val) (p : Pat) (v : Val) (bs : Env) → OrderedMem m → OrderedVal v → matched m p v ≡ Some bs → OrderedEnv bs
matched_some m p v bs hm hv q = subst OrderedMatch q (matched_ordered m p v hm hv)

pub value_follows : (n : ℕ) (go : Go) (h : Held) (f : Fall) (p : Pat) (a : Exp) (is : Items) (s : St) (r : Res Val) → OrderedFall f → ((bs : Env) (s1 : St) → OrderedEnv bs → OrderedMem s1.mem → RowFollows n go (with_vars bs (scope_of h)) is s1) → Follows n r a s → FollowsOf works n (then_do r (λ v s1. or_next (matched s1.mem p v) (λ bs. ev_items go (with_vars bs (scope_of h)) is s1) (fallen f s1))) (Doing h f p a is) s
value_follows n go h f p a is s (Done v s1) hf rec fo =
    then_done trees works n (λ y. Doing h f p y is) a s v s1 _ (doing_frame h f p is) fo
    (bound_step n h f p is v s1 (settled h f is (matched s1.mem p v)) _ refl
    (λ t q. left n go h f is s1 (matched s1.mem p v) t hf fo.ordered.1 (λ bs e. rec bs s1 (matched_some s1.mem p v bs fo.ordered.1 fo.ordered.0 e) fo.ordered.1) q)
    (left_none go h f is s1 (matched s1.mem p v)))
value_follows n go h f p a is s (Raised v s1) hf rec fo =
    then_raised trees works n (λ y. Doing h f p y is) a s v s1 _ (doing_frame h f p is) fo
    (one_step works n n (Raised v s1) (Doing h f p (Fail v) is) (Lost v) s1 s1 (omega arith) (Lost v, s1, inr (inr (v, refl, refl, refl))) (doing_fail_only h f p is v s1) (lost_follows works n v s1 fo.ordered.0 fo.ordered.1))
value_follows n go h f p a is s (More s1) hf rec fo = then_more trees works n (λ y. Doing h f p y is) a s s1 (doing_frame h f p is) fo
value_follows n go h f p a is s (Wrong s1) hf rec fo = wrong_follows works n (Doing h f p a is) s s1

-- the body of a structure on its way
open_only : (h : Held) (p : Part) (is : Items) (b : Work) (s : St) (t : Work) (s1 : St) → CanOf WorkStep b s → WorkStep (Open h p b is) s t s1 → (d : Work) × WorkStep b s d s1 × (t ≡ Open h p d is)
open_only h p is b s t s1 can (inl st) = st
open_only h p is b s t s1 can (inr (inl st)) = absurd (no_step WorkStep b (Whole st.0) s can st.1 (λ d. d.2))
open_only h p is b s t s1 can (inr (inr st)) = absurd (no_step WorkStep b (Lost st.0) s can st.1 (λ d. d.2))

open_frame : (h : Held) (p : Part) (is : Items) → Frame WorkStep WorkStep (λ b. Open h p b is)
open_frame h p is = record { up = λ b s t s1 st. inl (t, st, refl); only = open_only h p is }

abbrev held_or : Held → Work → Held
held_or d (Whole e) = e
held_or d _ = d

abbrev lost_from : Val → Work → Val
lost_from d (Lost v) = v
lost_from d _ = d

open_whole_only : (h : Held) (p : Part) (is : Items) (e : Held) (s : St) (t : Work) (s1 : St) → WorkStep (Open h p (Whole e) is) s t s1 → (t ≡ Rest (held (with_struct p (scope_of e).own (scope_of h))) is) × (s1 ≡ s)
open_whole_only h p is e s t s1 (inl st) = absurd st.1
open_whole_only h p is e s t s1 (inr (inl st)) = (st.2 ∙ ap (λ d. Rest (held (with_struct p (scope_of d).own (scope_of h))) is) (sym (ap (held_or e) st.1)), st.3)
open_whole_only h p is e s t s1 (inr (inr st)) = absurd (cc st.1)

open_lost_only : (h : Held) (p : Part) (is : Items) (v : Val) (s : St) (t : Work) (s1 : St) → WorkStep (Open h p (Lost v) is) s t s1 → (t ≡ Lost v) × (s1 ≡ s)
open_lost_only h p is v s t s1 (inl st) = absurd st.1
open_lost_only h p is v s t s1 (inr (inl st)) = absurd (cc st.1)
open_lost_only h p is v s t s1 (inr (inr st)) = (st.2 ∙ ap Lost (sym (ap (lost_from v) st.1)), st.3)

pub struct_follows : (n : ℕ) (go : Go) (h : Held) (p : Part) (b : Work) (is : Items) (s : St) (r : Res Scope) → ((e : Scope) (s1 : St) → OrderedScope e → OrderedMem s1.mem → RowFollows n go (with_struct p e.own (scope_of h)) is s1) → FollowsOf works n r b s → FollowsOf works n (then_do r (λ (e : Scope) s1. ev_items go (with_struct p e.own (scope_of h)) is s1)) (Open h p b is) s
struct_follows n go h p b is s (Done e s1) rec fo =
    let r = ev_items go (with_struct p e.own (scope_of h)) is s1 in
    let next = Rest (held (with_struct p (scope_of (held e)).own (scope_of h))) is in
    then_done works works n (λ y. Open h p y is) b s e s1 _ (open_frame h p is) fo
    (one_step works n n r (Open h p (Whole (held e)) is) next s1 s1 (omega arith) (next, s1, inr (inl (held e, refl, refl, refl))) (open_whole_only h p is (held e) s1)
    (subst (λ (x : Scope). FollowsOf works n r (Rest (held (with_struct p x.own (scope_of h))) is) s1) (sym (scope_held e)) (rec e s1 fo.ordered.0 fo.ordered.1)))
struct_follows n go h p b is s (Raised v s1) rec fo =
    then_raised works works n (λ y. Open h p y is) b s v s1 _ (open_frame h p is) fo
    (one_step works n n (Raised v s1) (Open h p (Lost v) is) (Lost v) s1 s1 (omega arith) (Lost v, s1, inr (inr (v, refl, refl, refl))) (open_lost_only h p is v s1) (lost_follows works n v s1 fo.ordered.0 fo.ordered.1))
struct_follows n go h p b is s (More s1) rec fo = then_more works works n (λ y. Open h p y is) b s s1 (open_frame h p is) fo
struct_follows n go h p b is s (Wrong s1) rec fo = wrong_follows works n (Open h p b is) s s1

-- a local structure on its way
in_only : (p : Part) (b : Exp) (w : Work) (s : St) (t : Exp) (s1 : St) → CanOf WorkStep w s → Step (InMod p w b) s t s1 → (d : Work) × WorkStep w s d s1 × (t ≡ InMod p d b)
in_only p b w s t s1 can (inl st) = st
in_only p b w s t s1 can (inr (inl st)) = absurd (no_step WorkStep w (Whole st.0) s can st.1 (λ d. d.2))
in_only p b w s t s1 can (inr (inr st)) = absurd (no_step WorkStep w (Lost st.0) s can st.1 (λ d. d.2))

in_frame : (p : Part) (b : Exp) → Frame WorkStep Step (λ w. InMod p w b)
in_frame p b = record { up = λ w s t s1 st. inl (t, st, refl); only = in_only p b }

in_whole_only : (p : Part) (b : Exp) (e : Held) (s : St) (t : Exp) (s1 : St) → Step (InMod p (Whole e) b) s t s1 → (t ≡ close (under p (scope_of e).own empty) b) × (s1 ≡ s)
in_whole_only p b e s t s1 (inl st) = absurd st.1
in_whole_only p b e s t s1 (inr (inl st)) = (st.2 ∙ ap (λ d. close (under p (scope_of d).own empty) b) (sym (ap (held_or e) st.1)), st.3)
in_whole_only p b e s t s1 (inr (inr st)) = absurd (cc st.1)

in_lost_only : (p : Part) (b : Exp) (v : Val) (s : St) (t : Exp) (s1 : St) → Step (InMod p (Lost v) b) s t s1 → (t ≡ Fail v) × (s1 ≡ s)
in_lost_only p b v s t s1 (inl st) = absurd st.1
in_lost_only p b v s t s1 (inr (inl st)) = absurd (cc st.1)
in_lost_only p b v s t s1 (inr (inr st)) = (st.2 ∙ ap Fail (sym (ap (lost_from v) st.1)), st.3)

pub local_follows : (n : ℕ) (go : Go) (env : Env) (p : Part) (w : Work) (b : Exp) (s : St) (r : Res Scope) → ((c : Scope) (s1 : St) → OrderedScope c → OrderedMem s1.mem → Follows n (ev go (under p c.own env) b s1) (close (under p c.own env) b) s1) → FollowsOf works n r w s → Follows n (then_do r (λ (c : Scope) s1. ev go (under p c.own env) b s1)) (InMod p w (close (hide (through p) env) b)) s
local_follows n go env p w b s (Done c s1) rec fo =
    let b1 = close (hide (through p) env) b in
    let r = ev go (under p c.own env) b s1 in
    let next = close (under p (scope_of (held c)).own empty) b1 in
    then_done works trees n (λ y. InMod p y b1) w s c s1 _ (in_frame p b1) fo
    (one_step trees n n r (InMod p (Whole (held c)) b1) next s1 s1 (omega arith) (next, s1, inr (inl (held c, refl, refl, refl))) (in_whole_only p b1 (held c) s1)
    (subst (λ x. Follows n r x s1) (sym (ap (λ (x : Scope). close (under p x.own empty) b1) (scope_held c) ∙ close_under p c.own env b)) (rec c s1 fo.ordered.0 fo.ordered.1)))
local_follows n go env p w b s (Raised v s1) rec fo =
    let b1 = close (hide (through p) env) b in
    then_raised works trees n (λ y. InMod p y b1) w s v s1 _ (in_frame p b1) fo
    (one_step trees n n (Raised v s1) (InMod p (Lost v) b1) (Fail v) s1 s1 (omega arith) (Fail v, s1, inr (inr (v, refl, refl, refl))) (in_lost_only p b1 v s1) (lost_follows trees n v s1 fo.ordered.0 fo.ordered.1))
local_follows n go env p w b s (More s1) rec fo = then_more works trees n (λ y. InMod p y (close (hide (through p) env) b)) w s s1 (in_frame p (close (hide (through p) env) b)) fo
local_follows n go env p w b s (Wrong s1) rec fo = wrong_follows trees n (InMod p w (close (hide (through p) env) b)) s s1

-- the body of an applied functor on its way
body_only : (w : Work) (s : St) (t : Exp) (s1 : St) → CanOf WorkStep w s → Step (InStruct w) s t s1 → (d : Work) × WorkStep w s d s1 × (t ≡ InStruct d)
body_only w s t s1 can (inl st) = st
body_only w s t s1 can (inr (inl st)) = absurd (no_step WorkStep w (Whole st.0) s can st.1 (λ d. d.2))
body_only w s t s1 can (inr (inr st)) = absurd (no_step WorkStep w (Lost st.0) s can st.1 (λ d. d.2))

body_frame : Frame WorkStep Step (λ w. InStruct w)
body_frame = record { up = λ w s t s1 st. inl (t, st, refl); only = body_only }

body_whole_only : (e : Held) (s : St) (t : Exp) (s1 : St) → Step (InStruct (Whole e)) s t s1 → (t ≡ Is (Module (kept_env (scope_of e).own))) × (s1 ≡ s)
body_whole_only e s t s1 (inl st) = absurd st.1
body_whole_only e s t s1 (inr (inl st)) = (st.2 ∙ ap (λ d. Is (Module (kept_env (scope_of d).own))) (sym (ap (held_or e) st.1)), st.3)
body_whole_only e s t s1 (inr (inr st)) = absurd (cc st.1)

body_lost_only : (v : Val) (s : St) (t : Exp) (s1 : St) → Step (InStruct (Lost v)) s t s1 → (t ≡ Fail v) × (s1 ≡ s)
body_lost_only v s t s1 (inl st) = absurd st.1
body_lost_only v s t s1 (inr (inl st)) = absurd (cc st.1)
body_lost_only v s t s1 (inr (inr st)) = (st.2 ∙ ap Fail (sym (ap (lost_from v) st.1)), st.3)

pub body_follows : (n : ℕ) (w : Work) (s : St) (r : Res Scope) → FollowsOf works n r w s → Follows n (then_do r (λ (c : Scope) s1. Done (Module (kept_env c.own)) s1)) (InStruct w) s
body_follows n w s (Done c s1) fo =
    let v = Module (kept_env c.own) in
    let next = Is (Module (kept_env (scope_of (held c)).own)) in
    then_done works trees n (λ y. InStruct y) w s c s1 _ body_frame fo
    (one_step trees n n (Done v s1) (InStruct (Whole (held c))) next s1 s1 (omega arith) (next, s1, inr (inl (held c, refl, refl, refl))) (body_whole_only (held c) s1)
    (subst (λ (x : Scope). Follows n (Done v s1) (Is (Module (kept_env x.own))) s1) (sym (scope_held c)) (done_follows trees n v s1 (λ x. kept_ordered (c.own x) (fo.ordered.0.1 x)) fo.ordered.1)))
body_follows n w s (Raised v s1) fo =
    then_raised works trees n (λ y. InStruct y) w s v s1 _ body_frame fo
    (one_step trees n n (Raised v s1) (InStruct (Lost v)) (Fail v) s1 s1 (omega arith) (Fail v, s1, inr (inr (v, refl, refl, refl))) (body_lost_only v s1) (lost_follows trees n v s1 fo.ordered.0 fo.ordered.1))
body_follows n w s (More s1) fo = then_more works trees n (λ y. InStruct y) w s s1 body_frame fo
body_follows n w s (Wrong s1) fo = wrong_follows trees n (InStruct w) s s1

-- an application on its way
making_only : (h : Held) (p : Part) (is : Items) (a : Exp) (s : St) (t : Work) (s1 : St) → CanStep a s → WorkStep (Making h p a is) s t s1 → (b : Exp) × Step a s b s1 × (t ≡ Making h p b is)
making_only h p is a s t s1 can (inl st) = st
making_only h p is a s t s1 can (inr (inl st)) = absurd (no_step Step a (Is st.0) s can st.1 (λ d. d.2))
making_only h p is a s t s1 can (inr (inr st)) = absurd (no_step Step a (Fail st.0) s can st.1 (λ d. d.2))

making_frame : (h : Held) (p : Part) (is : Items) → Frame Step WorkStep (λ a. Making h p a is)
making_frame h p is = record { up = λ a s t s1 st. inl (t, st, refl); only = making_only h p is }

making_is_only : (h : Held) (p : Part) (is : Items) (v : Val) (s : St) (t : Work) (s1 : St) → WorkStep (Making h p (Is v) is) s t s1 → (t ≡ Rest (held (with_struct p (fields v) (scope_of h))) is) × (s1 ≡ s)
making_is_only h p is v s t s1 (inl st) = absurd st.1
making_is_only h p is v s t s1 (inr (inl st)) = (st.2 ∙ ap (λ w. Rest (held (with_struct p (fields w) (scope_of h))) is) (is_inj v st.0 st.1), st.3)
making_is_only h p is v s t s1 (inr (inr st)) = absurd (is_fail v st.0 st.1)

making_fail_only : (h : Held) (p : Part) (is : Items) (v : Val) (s : St) (t : Work) (s1 : St) → WorkStep (Making h p (Fail v) is) s t s1 → (t ≡ Lost v) × (s1 ≡ s)
making_fail_only h p is v s t s1 (inl st) = absurd st.1
making_fail_only h p is v s t s1 (inr (inl st)) = absurd (fail_is v st.0 st.1)
making_fail_only h p is v s t s1 (inr (inr st)) = (st.2 ∙ ap Lost (fail_inj v st.0 st.1), st.3)

making_follows : (n : ℕ) (go : Go) (h : Held) (p : Part) (a : Exp) (is : Items) (s : St) (r : Res Val) → ((v : Val) (s1 : St) → OrderedVal v → OrderedMem s1.mem → RowFollows n go (with_struct p (fields v) (scope_of h)) is s1) → Follows n r a s → FollowsOf works n (then_do r (λ v s1. ev_items go (with_struct p (fields v) (scope_of h)) is s1)) (Making h p a is) s
making_follows n go h p a is s (Done v s1) rec fo =
    let next = Rest (held (with_struct p (fields v) (scope_of h))) is in
    then_done trees works n (λ y. Making h p y is) a s v s1 _ (making_frame h p is) fo
    (one_step works n n (ev_items go (with_struct p (fields v) (scope_of h)) is s1) (Making h p (Is v) is) next s1 s1 (omega arith) (next, s1, inr (inl (v, refl, refl, refl))) (making_is_only h p is v s1) (rec v s1 fo.ordered.0 fo.ordered.1))
making_follows n go h p a is s (Raised v s1) rec fo =
    then_raised trees works n (λ y. Making h p y is) a s v s1 _ (making_frame h p is) fo
    (one_step works n n (Raised v s1) (Making h p (Fail v) is) (Lost v) s1 s1 (omega arith) (Lost v, s1, inr (inr (v, refl, refl, refl))) (making_fail_only h p is v s1) (lost_follows works n v s1 fo.ordered.0 fo.ordered.1))
making_follows n go h p a is s (More s1) rec fo = then_more trees works n (λ y. Making h p y is) a s s1 (making_frame h p is) fo
making_follows n go h p a is s (Wrong s1) rec fo = wrong_follows works n (Making h p a is) s s1

abbrev exp_from : Exp → Option Exp → Exp
exp_from d None = d
exp_from d (Some t) = t

pub under_ordered : (p : Part) (b env : Env) → OrderedEnv b → OrderedEnv env → OrderedEnv (under p b env)
under_ordered p b env hb he = λ y. reached_ordered p b y (env y) hb (he y)

-- the step that opens the functor is a call
pub applied_follows : (n : ℕ) (go : Go) → Going n go → (h : Held) (p : Part) (f a : Name) (is : Items) (s : St) (o : Option Val) → (scope_of h).env (functor_at f) ≡ o → OrderedOpt o → OrderedEnv (within a (scope_of h).env) → OrderedMem s.mem → ((v : Val) (s1 : St) → OrderedVal v → OrderedMem s1.mem → RowFollows (suc n) go (with_struct p (fields v) (scope_of h)) is s1) → FollowsOf works (suc n) (then_do (applied go o (within a (scope_of h).env) s) (λ v s1. ev_items go (with_struct p (fields v) (scope_of h)) is s1)) (Rest h (Applied p f a is)) s
applied_follows n go rec h p f a is s None q ho hb m next = wrong_follows works (suc n) (Rest h (Applied p f a is)) s s
applied_follows n go rec h p f a is s (Some (Functor e x body)) q ho hb m next =
    let b = within a (scope_of h).env in
    let env = under x b (found_env e) in
    let t = close env (StructOf nothing body) in
    let r = then_do (go env (StructOf nothing body) s) (λ v s1. ev_items go (with_struct p (fields v) (scope_of h)) is s1) in
    one_step works (suc n) n r (Rest h (Applied p f a is)) (Making h p t is) s s (omega arith) (Making h p t is, s, (t, ap (opened b) q, refl, refl))
    (λ u s1 st. (st.2 ∙ ap (λ y. Making h p y is) (ap (exp_from t) (sym st.1 ∙ ap (opened b) q)), st.3))
    (making_follows n go h p t is s (go env (StructOf nothing body) s)
    (λ v s1 hv m1. follows_down works n (ev_items go (with_struct p (fields v) (scope_of h)) is s1) (Rest (held (with_struct p (fields v) (scope_of h))) is) s1 (next v s1 hv m1))
    (rec env (StructOf nothing body) s (under_ordered x b (found_env e) hb (held_ordered e ho.0)) ((λ y. tt), ho.1) m))
applied_follows n go rec h p f a is s (Some v) q ho hb m next = wrong_follows works (suc n) (Rest h (Applied p f a is)) s s

pub functor_ordered : (f x : Part) (body : Items) (c : Scope) → OrderedItems body → OrderedScope c → OrderedScope (with_functor f x body c)
functor_ordered f x body c hi h = struct_ordered f (put ([] ∷ []) (Functor (kept_env c.env) x body) empty) c (put_ordered ([] ∷ []) (Functor (kept_env c.env) x body) empty ((λ y. kept_ordered (c.env y) (h.0 y)), hi) empty_ordered) h

-- an item starts by one silent step
pub silent : (n : ℕ) (r : Res Scope) (w t : Work) (s s1 : St) → WorkStep w s t s1 → ((u : Work) (s2 : St) → WorkStep w s u s2 → (u ≡ t) × (s2 ≡ s1)) → FollowsOf works n r t s1 → FollowsOf works n r w s
silent n r w t s s1 st only f = one_step works n n r w t s s1 (omega arith) (t, s1, st) only f

-- a scope, and as a place holds it
pub from_held : (n : ℕ) (go : Go) (c : Scope) (is : Items) (s : St) → FollowsOf works n (ev_items go (scope_of (held c)) is s) (Rest (held c) is) s → RowFollows n go c is s
from_held n go c is s f = subst (λ x. FollowsOf works n (ev_items go x is s) (Rest (held c) is) s) (scope_held c) f

pub held_scope_ordered : (c : Scope) → OrderedScope c → OrderedScope (scope_of (held c))
held_scope_ordered c h = subst OrderedScope (sym (scope_held c)) h

-- What it is for the runs of a machine to follow an evaluation.
use Rattle.std.proofs.Common.{◌≡◌, ℕ, suc, ◌+◌, ◌≤◌, refl, ap, ◌∙◌, subst, arith}
use Rattle.runs.proofs.Inevitable.{CanOf, Reaches, Stepping, inev_at, inev_bind, inev_map, later, now}
use Rattle.runs.specs.Meaning.{Done, More, Raised, Res, Wrong}
use Rattle.runs.specs.Ordered.{OrderedMem, OrderedScope, OrderedVal}
use Rattle.runs.specs.Primitives.{St}
use Rattle.runs.specs.Scope.{Scope, held}
use Rattle.runs.specs.Steps.{Step, WorkStep}
use Rattle.runs.specs.Tree.{Exp, Fail, Is, Lost, Val, Whole, Work}

-- a machine: its steps, its finished and its raised places, and what is owed of a finished one
pub record Machine (A T : Type 0) : Type 1 where
  pub step : T → St → T → St → Type 0
  pub fin : A → T
  pub lost : Val → T
  pub good : A → Type 0

-- trees, and rows of items
abbrev pub trees : Machine Val Exp
trees = record { step = Step; fin = λ v. Is v; lost = λ v. Fail v; good = OrderedVal }

abbrev pub works : Machine Scope Work
works = record { step = WorkStep; fin = λ c. Whole (held c); lost = λ v. Lost v; good = OrderedScope }

abbrev pub Inev : (ℕ → Exp → St → Type 0) → ℕ → ℕ → Exp → St → Type 0
Inev P h k e s = Reaches Step P h k e s

abbrev pub CanStep : Exp → St → Type 0
CanStep e s = CanOf Step e s

-- how an evaluation leaves the values
abbrev pub OrderedRes : {A : Type 0} → (A → Type 0) → Res A → Type 0
OrderedRes good (Done v s) = good v × OrderedMem s.mem
OrderedRes good (Raised v s) = OrderedVal v × OrderedMem s.mem
OrderedRes good (More s) = Unit {0}
OrderedRes good (Wrong s) = Unit {0}

-- where a run must come, if it begins at k0 and n calls are left
abbrev pub GoalOf : {A T : Type 0} → Machine A T → ℕ → ℕ → Res A → ℕ → T → St → Type 0
GoalOf M n k0 (Done v s0) k t s = (t ≡ M.fin v) × (s ≡ s0) × (k0 ≤ k)
GoalOf M n k0 (Raised v s0) k t s = (t ≡ M.lost v) × (s ≡ s0) × (k0 ≤ k)
GoalOf M n k0 (More s0) k t s = (s ≡ s0) × (n + k0 ≤ k)
GoalOf M n k0 (Wrong s0) k t s = Unit {0}

abbrev pub Goal : ℕ → ℕ → Res Val → ℕ → Exp → St → Type 0
Goal n k0 r k t s = GoalOf trees n k0 r k t s

pub goal_later : {A T : Type 0} (M : Machine A T) (n k0 : ℕ) (r : Res A) (k : ℕ) (t : T) (s : St) → GoalOf M n k0 r k t s → GoalOf M n k0 r (suc k) t s
goal_later M n k0 (Done v s0) k t s g = (g.0, g.1, omega (arith, g.2))
goal_later M n k0 (Raised v s0) k t s g = (g.0, g.1, omega (arith, g.2))
goal_later M n k0 (More s0) k t s g = (g.0, omega (arith, g.1))
goal_later M n k0 (Wrong s0) k t s g = tt

pub goal_from : {A T : Type 0} (M : Machine A T) (m n k0 k1 : ℕ) (r : Res A) (k : ℕ) (t : T) (s : St) → k0 ≤ k1 → m + k0 ≤ n + k1 → GoalOf M n k1 r k t s → GoalOf M m k0 r k t s
goal_from M m n k0 k1 (Done v s0) k t s le l2 g = (g.0, g.1, omega (arith, g.2))
goal_from M m n k0 k1 (Raised v s0) k t s le l2 g = (g.0, g.1, omega (arith, g.2))
goal_from M m n k0 k1 (More s0) k t s le l2 g = (g.0, omega (arith, g.1))
goal_from M m n k0 k1 (Wrong s0) k t s le l2 g = tt

-- each run from e comes to r
pub record FollowsOf {A T : Type 0} (M : Machine A T) (n : ℕ) (r : Res A) (e : T) (s : St) : Type 0 where
  pub bound : ℕ
  pub comes : (k : ℕ) → Reaches M.step (GoalOf M n k r) bound k e s
  pub ordered : OrderedRes M.good r

abbrev pub Follows : ℕ → Res Val → Exp → St → Type 0
Follows n r e s = FollowsOf trees n r e s

-- with fewer calls left
pub follows_down : {A T : Type 0} (M : Machine A T) (n : ℕ) (r : Res A) (e : T) (s : St) → FollowsOf M (suc n) r e s → FollowsOf M n r e s
follows_down M n r e s f = record { bound = f.bound; comes = λ k. inev_map (λ k1 t s1 g. goal_from M n (suc n) k k r k1 t s1 (omega arith) (omega arith) g) (f.comes k); ordered = f.ordered }

pub wrong_follows : {A T : Type 0} (M : Machine A T) (n : ℕ) (e : T) (s s0 : St) → FollowsOf M n (Wrong s0) e s
wrong_follows M n e s s0 = record { bound = 0; comes = λ k. now tt; ordered = tt }

-- a place with one possible step
pub one_step : {A T : Type 0} (M : Machine A T) (m n : ℕ) (r : Res A) (e u : T) (s w : St) → m ≤ suc n → CanOf M.step e s → ((t : T) (s1 : St) → M.step e s t s1 → (t ≡ u) × (s1 ≡ w)) → FollowsOf M n r u w → FollowsOf M m r e s
one_step M m n r e u s w le c only f =
    record {
      bound = suc f.bound;
      comes = λ k. later f.bound (omega arith) c (λ t s1 st. let o = only t s1 st in
          inev_at _ f.bound (suc k) t u w s1 o.0 o.1 (inev_map (λ k1 t1 s2 g. goal_from M m n k (suc k) r k1 t1 s2 (omega arith) (omega arith) g) (f.comes (suc k))));
      ordered = f.ordered;
    }

-- a finished place, and a raised one
pub done_follows : {A T : Type 0} (M : Machine A T) (n : ℕ) (v : A) (s : St) → M.good v → OrderedMem s.mem → FollowsOf M n (Done v s) (M.fin v) s
done_follows M n v s hv hm = record { bound = 0; comes = λ k. now (refl, refl, omega arith); ordered = (hv, hm) }

pub lost_follows : {A T : Type 0} (M : Machine A T) (n : ℕ) (v : Val) (s : St) → OrderedVal v → OrderedMem s.mem → FollowsOf M n (Raised v s) (M.lost v) s
lost_follows M n v s hv hm = record { bound = 0; comes = λ k. now (refl, refl, omega arith); ordered = (hv, hm) }

-- the same round a part on its way
pub record In {T U : Type 0} (C : T → U) (P : ℕ → T → St → Type 0) (k : ℕ) (t : U) (s : St) : Type 0 where
  pub a1 : T
  pub is : t ≡ C a1
  pub at : P k a1 s

pub no_step : {T : Type 0} (S : Stepping T) (a b : T) (s : St) → CanOf S a s → a ≡ b → (CanOf S b s → ⊥) → ⊥
no_step S a b s c q none = none (subst (λ x. CanOf S x s) q c)

-- a place in which the part at C steps while it can, and nothing else does
pub record Frame {T U : Type 0} (S : Stepping T) (R : Stepping U) (C : T → U) : Type 0 where
  pub up : (a : T) (s : St) (t : T) (s1 : St) → S a s t s1 → R (C a) s (C t) s1
  pub only : (a : T) (s : St) (t : U) (s1 : St) → CanOf S a s → R (C a) s t s1 → (b : T) × S a s b s1 × (t ≡ C b)

framed : {T U : Type 0} (S : Stepping T) (R : Stepping U) {P : ℕ → T → St → Type 0} (C : T → U) → Frame S R C → {h k : ℕ} {a : T} {s : St} → Reaches S P h k a s → Reaches R (In C P) h k (C a) s
framed S R C fr (now {e = a} p) = now (record { a1 = a; is = refl; at = p })
framed S R {P = P} C fr (later {k = k} {e = a} {s = s} j lt c g) =
    later j lt (C c.0, c.1, fr.up a s c.0 c.1 c.2)
    (λ t s1 st. let o = fr.only a s t s1 c st in inev_at (In C P) j (suc k) t (C o.0) s1 s1 o.2 refl (framed S R C fr (g o.0 s1 o.1)))

pub then_done : {A T B U : Type 0} (M : Machine A T) (N : Machine B U) (n : ℕ) (C : T → U) (a : T) (s : St) (v : A) (s1 : St) (r : Res B) → Frame M.step N.step C → FollowsOf M n (Done v s1) a s → FollowsOf N n r (C (M.fin v)) s1 → FollowsOf N n r (C a) s
then_done M N n C a s v s1 r fr f g =
    record {
      bound = f.bound + g.bound;
      comes = λ k. inev_bind g.bound (λ k1 t s2 p. inev_at _ g.bound k1 t (C (M.fin v)) s1 s2 (p.is ∙ ap C p.at.0) p.at.1 (inev_map (λ k2 t2 s3 w. goal_from N n n k k1 r k2 t2 s3 p.at.2 (omega (arith, p.at.2)) w) (g.comes k1))) (framed M.step N.step C fr (f.comes k));
      ordered = g.ordered;
    }

pub then_raised : {A T B U : Type 0} (M : Machine A T) (N : Machine B U) (n : ℕ) (C : T → U) (a : T) (s : St) (v : Val) (s1 : St) (r : Res B) → Frame M.step N.step C → FollowsOf M n (Raised v s1) a s → FollowsOf N n r (C (M.lost v)) s1 → FollowsOf N n r (C a) s
then_raised M N n C a s v s1 r fr f g =
    record {
      bound = f.bound + g.bound;
      comes = λ k. inev_bind g.bound (λ k1 t s2 p. inev_at _ g.bound k1 t (C (M.lost v)) s1 s2 (p.is ∙ ap C p.at.0) p.at.1 (inev_map (λ k2 t2 s3 w. goal_from N n n k k1 r k2 t2 s3 p.at.2 (omega (arith, p.at.2)) w) (g.comes k1))) (framed M.step N.step C fr (f.comes k));
      ordered = g.ordered;
    }

pub then_more : {A T B U : Type 0} (M : Machine A T) (N : Machine B U) (n : ℕ) (C : T → U) (a : T) (s : St) (s1 : St) → Frame M.step N.step C → FollowsOf M n (More s1) a s → FollowsOf N n (More s1) (C a) s
then_more M N n C a s s1 fr f = record { bound = f.bound; comes = λ k. inev_map (λ k1 t s2 p. p.at) (framed M.step N.step C fr (f.comes k)); ordered = tt }

-- What every run comes to, by any relation of steps.
use Rattle.std.proofs.Common.{◌≡◌, ℕ, zero, suc, ◌+◌, ◌<◌, ◌≤◌, ◌⊎◌, inl, inr, ⊎_elim, refl, sym, subst₂, arith}
use Rattle.runs.specs.Primitives.{St}

-- a relation of steps
abbrev pub Stepping : Type 0 → Type 1
Stepping T = T → St → T → St → Type 0

-- a run of j steps
abbrev pub RunOf : {T : Type 0} → Stepping T → ℕ → T → St → T → St → Type 0
RunOf S zero e s t s1 = (t ≡ e) × (s1 ≡ s)
RunOf {T = T} S (suc j) e s t s1 = (u : T) × (s2 : St) × S e s u s2 × RunOf S j u s2 t s1

abbrev pub CanOf : {T : Type 0} → Stepping T → T → St → Type 0
CanOf {T = T} S e s = (t : T) × (s1 : St) × S e s t s1

-- from here, with k steps made, each run comes to a place where P holds, in at most h further steps, and can step until then
pub data Reaches {T : Type 0} (S : Stepping T) (P : ℕ → T → St → Type 0) : ℕ → ℕ → T → St → Type 0 where
  now : {h k : ℕ} {e : T} {s : St} → P k e s → Reaches S P h k e s
  later : {h k : ℕ} {e : T} {s : St} → (j : ℕ) → j < h → CanOf S e s → ((t : T) (s1 : St) → S e s t s1 → Reaches S P j (suc k) t s1) → Reaches S P h k e s

pub inev_up : {T : Type 0} {S : Stepping T} {P : ℕ → T → St → Type 0} {a k : ℕ} {e : T} {s : St} (h : ℕ) → a ≤ h → Reaches S P a k e s → Reaches S P h k e s
inev_up h le (now p) = now p
inev_up h le (later j lt c g) = later j (omega arith) c g

pub inev_map : {T : Type 0} {S : Stepping T} {P Q : ℕ → T → St → Type 0} → ((k : ℕ) (e : T) (s : St) → P k e s → Q k e s) → {h k : ℕ} {e : T} {s : St} → Reaches S P h k e s → Reaches S Q h k e s
inev_map f (now p) = now (f _ _ _ p)
inev_map f (later j lt c g) = later j lt c (λ t s1 st. inev_map f (g t s1 st))

-- one thing after another
pub inev_bind : {T : Type 0} {S : Stepping T} {P Q : ℕ → T → St → Type 0} (b : ℕ) → ((k : ℕ) (e : T) (s : St) → P k e s → Reaches S Q b k e s) → {a k : ℕ} {e : T} {s : St} → Reaches S P a k e s → Reaches S Q (a + b) k e s
inev_bind b f {a = a} (now p) = inev_up (a + b) (omega arith) (f _ _ _ p)
inev_bind b f {a = a} (later j lt c g) = later (j + b) (omega arith) c (λ t s1 st. inev_bind b f (g t s1 st))

-- the same at an equal place
pub inev_at : {T : Type 0} {S : Stepping T} (Q : ℕ → T → St → Type 0) (h k : ℕ) (t u : T) (s s1 : St) → t ≡ u → s1 ≡ s → Reaches S Q h k u s → Reaches S Q h k t s1
inev_at {S = S} Q h k t u s s1 q r i = subst₂ (λ x y. Reaches S Q h k x y) (sym q) (sym r) i

-- there is a run that comes there
pub record Comes {T : Type 0} (S : Stepping T) (P : ℕ → T → St → Type 0) (e : T) (s : St) : Type 0 where
  pub k : ℕ
  pub r : ℕ
  pub u : T
  pub s2 : St
  pub run : RunOf S r e s u s2
  pub at : P k u s2

pub inev_run : {T : Type 0} {S : Stepping T} {P : ℕ → T → St → Type 0} {h k : ℕ} {e : T} {s : St} → Reaches S P h k e s → Comes S P e s
inev_run (now {k = k} {e = e} {s = s} p) = record { k = k; r = 0; u = e; s2 = s; run = (refl, refl); at = p }
inev_run (later j lt c g) =
    let m = inev_run (g c.0 c.1 c.2) in
    record { k = m.k; r = suc m.r; u = m.u; s2 = m.s2; run = (c.0, c.1, c.2, m.run); at = m.at }

-- a run of j steps has passed such a place
pub record Passed {T : Type 0} (S : Stepping T) (P : ℕ → T → St → Type 0) (k j : ℕ) (t : T) (s1 : St) : Type 0 where
  pub k1 : ℕ
  pub r : ℕ
  pub u : T
  pub s2 : St
  pub at : P k1 u s2
  pub rest : RunOf S r u s2 t s1
  pub count : k1 + r ≡ k + j

-- or it is still ahead
pub record Ahead {T : Type 0} (S : Stepping T) (P : ℕ → T → St → Type 0) (h j : ℕ) (t : T) (s1 : St) : Type 0 where
  pub can : CanOf S t s1
  pub short : j < h
  pub comes : Comes S P t s1

pub inev_split : {T : Type 0} {S : Stepping T} {P : ℕ → T → St → Type 0} {h k : ℕ} {e : T} {s : St} → Reaches S P h k e s → (j : ℕ) (t : T) (s1 : St) → RunOf S j e s t s1 → Passed S P k j t s1 ⊎ Ahead S P h j t s1
inev_split (now {k = k} {e = e} {s = s} p) j t s1 run = inl (record { k1 = k; r = j; u = e; s2 = s; at = p; rest = run; count = refl })
inev_split {S = S} {P = P} (later {h = h} {k = k} {e = e} {s = s} i lt c g) zero t s1 run =
    let whole : Reaches S P h k e s = later i lt c g in
    inr (subst₂ (λ u s2. Ahead S P h 0 u s2) (sym run.0) (sym run.1) (record { can = c; short = omega arith; comes = inev_run whole }))
inev_split {S = S} {P = P} (later {h = h} {k = k} i lt c g) (suc j) t s1 run =
    ⊎_elim
    (λ (p : Passed S P (suc k) j t s1). inl (record { k1 = p.k1; r = p.r; u = p.u; s2 = p.s2; at = p.at; rest = p.rest; count = omega (arith, p.count) }))
    (λ (a : Ahead S P i j t s1). inr (record { can = a.can; short = omega (arith, a.short); comes = a.comes }))
    (inev_split (g run.0 run.1 run.2) j t s1 run.3)

-- Runs by single steps, and when a meaning and the runs from a place agree.
use Rattle.std.specs.Prelude.{◌≡◌, ◌⊎◌, ℕ, zero, suc, ◌≤◌}
use Rattle.beh.specs.Behaviour.{Behaviour, Begins, IsOver, Extends}

-- a run of j steps from c to d
abbrev pub Run : {C : Type 0} → (C → C → Type 0) → ℕ → C → C → Type 0
Run Step zero c d = d ≡ c
Run {C = C} Step (suc j) c d = (e : C) × Step c e × Run Step j e d

-- c can make a step
abbrev pub CanStep : {C : Type 0} → (C → C → Type 0) → C → Type 0
CanStep {C = C} Step c = (d : C) × Step c d

-- a meaning is a behaviour for each n, and each run from `start` is seen as it says
pub record Agree {C : Type 0} (p : ℕ → Behaviour) (Step : C → C → Type 0) (seen : C → Behaviour) (start : C) : Type 0 where
  -- for each n, each run that is long enough, or over, goes on from p n
  pub reaches : (n : ℕ) → (m : ℕ) × ((j : ℕ) (c : C) → Run Step j start c → ((m ≤ j) ⊎ IsOver (seen c).ending) → Extends (seen c) (p n))
  -- the output of each run is gone on from by some p m, and a run that cannot step is over, as p m is
  pub covers : (j : ℕ) (c : C) → Run Step j start c → (m : ℕ) × Begins (p m).output (seen c).output × ((CanStep Step c → ⊥) → IsOver (seen c).ending × (p m ≡ seen c))

-- two meanings that go on from one another
pub record Match (p q : ℕ → Behaviour) : Type 0 where
  pub there : (n : ℕ) → (m : ℕ) × Extends (q m) (p n)
  pub back : (m : ℕ) → (n : ℕ) × Extends (p n) (q m)

-- a meaning that only goes on as n grows
abbrev pub GoesOn : (ℕ → Behaviour) → Type 0
GoesOn p = (n : ℕ) → Extends (p (suc n)) (p n)

-- Counts of faults of a device.
use Rattle.std.specs.Prelude.{ℕ, suc, ◌≤◌, ◌-◌, ◌^◌, min}

-- the last value of a count, where it stands still
abbrev pub last_count : ℕ
last_count = 2 ^ 64 - 1

-- A count that never falls rose: it is greater now than before, or stands at its last value.
abbrev pub Rose : ℕ → ℕ → Type 0
Rose before now = (before ≤ now) × (min (suc before) last_count ≤ now)

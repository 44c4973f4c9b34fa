-- The calls of a device in memory, some of which fail by their numbers.
use Rattle.std.specs.Prelude.{ℕ, suc, ◌≤◌, List, min, Contains}
use Rattle.src_io.specs.Faults.{last_count}

pub record Counted : Type 0 where
  -- the numbers of the calls that fail
  pub fails : List ℕ
  -- the number of the last call, 0 before the first
  pub made : ℕ
  -- how many failed
  pub failed : ℕ

-- a count goes up by one, and stands still at its last value
abbrev pub next_count : ℕ → ℕ
next_count n = min (suc n) last_count

-- no call was made
abbrev pub no_calls : List ℕ → Counted
no_calls fails = record { fails = fails; made = 0; failed = 0 }

-- The number of the next call is one of those that fail.
abbrev pub NextFails : Counted → Type 0
NextFails calls = Contains calls.fails (next_count calls.made)

-- No call from the next on fails: none of their numbers is named.
abbrev pub NoneFails : Counted → Type 0
NoneFails calls = (k : ℕ) → next_count calls.made ≤ k → ¬ Contains calls.fails k

-- one more call, which did not fail
abbrev pub after_call : Counted → Counted
after_call calls = record calls { made = next_count calls.made }

-- one more failure
abbrev pub after_failure : Counted → Counted
after_failure calls = record calls { failed = next_count calls.failed }

use Rattle.std.proofs.Common.{◌≡◌, ◌||◌, ℕ, drop}
use Rattle.eq_types.specs.Rows.{is_bound, in_set}
use Rattle.eq_types.proofs.row.all_numbers.Given as goal

abbrev pub invariant-loop-data : goal.invariant-loop-data
invariant-loop-data l = (n : ℕ) → (in_set l.set n || is_bound (drop l.data-index l.binds) n) ≡ is_bound l.binds n

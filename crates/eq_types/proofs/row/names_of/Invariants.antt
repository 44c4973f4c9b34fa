use Rattle.std.proofs.Common.{◌≡◌, ◌==◌, ◌||◌, ◌&&◌, ℕ, drop}
use Rattle.std.specs.List.{list_any}
use Rattle.eq_types.specs.Rows.{is_bound, in_set}
use Rattle.eq_types.proofs.row.names_of.Given as goal

abbrev pub invariant-loop-data : goal.invariant-loop-data
invariant-loop-data l = (n : ℕ) → (list_any (λ m. m.id == n) l.names || (in_set l.set n && is_bound (drop l.data-index l.binds) n)) ≡ (in_set l.set n && is_bound l.binds n)

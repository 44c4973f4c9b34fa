use Rattle.std.proofs.Common.{◌≡◌, ◌≤◌, ◌||◌, ℕ, List, drop, length}
use Rattle.env_arena.specs.Names.{has}
use Rattle.env_arena.specs.Over.{has_name}
use Rattle.env_arena.proofs.flat.see_all.Given as goal

abbrev pub invariant-loop-left : goal.invariant-loop-left
invariant-loop-left g l =
    (l.left ≤ length l.row) × ((n : List ℕ) → has l.seen n ≡ (has_name g.T.Named.name_of n (drop l.left l.row) || has l.fn.seen n))

abbrev pub decreases-loop-left : goal.decreases-loop-left
decreases-loop-left g l = l.left

use Rattle.std.proofs.Common.{◌≡◌, ◌≤◌, drop, length, None}
use Rattle.sml_static.specs.Lookups.{last_named}
use Rattle.env_arena.proofs.row.last_of.Given as goal

abbrev pub invariant-loop-left : goal.invariant-loop-left
invariant-loop-left g l = (l.left ≤ length l.row) × (last_named g.T.Named.name_of l.name (drop l.left l.row) ≡ None)

abbrev pub decreases-loop-left : goal.decreases-loop-left
decreases-loop-left g l = l.left

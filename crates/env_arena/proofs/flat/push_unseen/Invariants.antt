use Rattle.std.proofs.Common.{◌≡◌, ◌≤◌, drop, length, reverse}
use Rattle.env_arena.specs.Over.{over}
use Rattle.env_arena.proofs.flat.push_unseen.Given as goal

abbrev pub invariant-loop-left : goal.invariant-loop-left
invariant-loop-left g l =
    (l.left ≤ length l.first) × (reverse l.row.items ≡ over g.T.Named.name_of (drop l.left l.first) (reverse l.fn.row.items))

abbrev pub decreases-loop-left : goal.decreases-loop-left
decreases-loop-left g l = l.left

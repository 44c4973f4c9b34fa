use Rattle.std.proofs.Common.{◌≡◌, ◌+◌, ◌*◌, ◌<◌, length}
use Rattle.ty_unify.specs.declared.walk.Stage.TheVariants.{New}
use Rattle.ty_unify.specs.Walking.{Walk, Tracked, mark_at, new_left}
use Rattle.ty_unify.proofs.walk.descend.Given as goal

abbrev pub invariant-loop-node : goal.invariant-loop-node
invariant-loop-node l = record {
  tracked : Tracked (length l.cells) l.marks.items l.seen.items;
  walk : Walk l.cells l.fn.marks.items l.marks.items l.next l.path.items;
  met : l.from < length l.cells → mark_at l.marks.items l.from ≡ New → ⊥;
}

abbrev pub decreases-loop-node : goal.decreases-loop-node
decreases-loop-node l = 2 * new_left l.marks.items + length l.path.items

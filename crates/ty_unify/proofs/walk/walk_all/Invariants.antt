use Rattle.std.proofs.Common.{◌<◌, ℕ, [], length}
use Rattle.ty_unify.specs.Walking.{Walk, Tracked, mark_at, node_at, IsDone}
use Rattle.ty_unify.proofs.walk.walk_all.Given as goal

abbrev pub invariant-loop-entry : goal.invariant-loop-entry
invariant-loop-entry l = record {
  tracked : Tracked (length l.cells) l.marks.items l.seen.items;
  walk : Walk l.cells l.marks.items l.marks.items l.next [];
  done : (k : ℕ) → k < l.entry-index → node_at l.log k < length l.cells → IsDone (mark_at l.marks.items (node_at l.log k));
}

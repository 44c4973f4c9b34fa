use Rattle.std.proofs.Common.{length}
use Rattle.ty_unify.specs.Cells.{cell_at, sort_at}
use Rattle.ty_unify.proofs.Walks.{in_marks}
use Rattle.ty_unify.proofs.walk.parts_at.Goals as goal

pub next_part-requires : goal.next_part-requires
next_part-requires c = record {
  shape = in_marks (length c.args.cells.now) (length c.args.marks.now) (sort_at c.args.cells.now) (cell_at c.args.cells.now c.args.node).shape c.args.node c.requires.node c.requires.marks (c.requires.order.ordered c.args.node);
}

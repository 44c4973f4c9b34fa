use Rattle.std.proofs.Common.{ℕ, List, ap, ◌∙◌}
use Rattle.std.specs.Prelude.{slice_set}
use Rattle.ty_unify.specs.declared.cell.Cell.{Cell}
use Rattle.ty_unify.specs.Cells.{undone}
use Rattle.ty_unify.proofs.Undo.{logged}
use Rattle.ty_unify.proofs.cell.write.Goals as goal

pub returns-clause-undone : goal.returns-clause-undone
returns-clause-undone c =
    ap (λ (l : List (ℕ × Cell)). undone l (slice_set c.args.cells.now.items c.args.node c.args.cell)) c.in_ok-push.ensures.items
    ∙ logged c.args.log.now.items c.args.node c.args.cell c.index.result.now c.args.cells.now.items c.index.ensures

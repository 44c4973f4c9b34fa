use Rattle.std.proofs.Common.{◌≡◌, drop}
use Rattle.oc_ast.specs.View.{plain_cons}
use Rattle.oc_layout.specs.Layout as layout
use Rattle.oc_print.proofs.types.more_variants.Given as goal

abbrev pub invariant-loop-row : goal.invariant-loop-row
invariant-loop-row l = layout.more_cons (plain_cons (drop l.row-index l.rows)) l.pen ≡ layout.more_cons (plain_cons l.rows) l.fn.pen

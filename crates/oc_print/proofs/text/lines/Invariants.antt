use Rattle.std.proofs.Common.{◌≡◌, drop, map}
use Rattle.oc_ast.specs.View.{plain_item, row_of_items}
use Rattle.oc_layout.specs.Layout as layout
use Rattle.oc_print.proofs.text.lines.Given as goal

abbrev pub invariant-loop-it : goal.invariant-loop-it
invariant-loop-it l = layout.lines (row_of_items (map plain_item (drop l.it-index l.items))) l.pen ≡ layout.lines (row_of_items (map plain_item l.items)) l.fn.pen

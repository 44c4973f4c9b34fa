use Rattle.std.proofs.Common.{◌≡◌, drop, map}
use Rattle.oc_ast.specs.View.{plain_sitem, row_of_sitems}
use Rattle.oc_layout.specs.Layout as layout
use Rattle.oc_print.proofs.signatures.+signatures.Given as goal

abbrev pub invariant-signature_items-loop-item : goal.invariant-signature_items-loop-item
invariant-signature_items-loop-item l = layout.sitems l.indentation (row_of_sitems (map plain_sitem (drop l.item-index l.items))) l.pen ≡ layout.sitems l.indentation (row_of_sitems (map plain_sitem l.items)) l.fn.pen

use Rattle.std.proofs.Common.{◌≡◌, ◌++◌, drop, map}
use Rattle.oc_ast.specs.View.{plain_item}
use Rattle.tl_session.specs.Written.{item_tree}
use Rattle.tl_session.proofs.unit.unit_items.Given as goal

abbrev pub invariant-loop-item : goal.invariant-loop-item
invariant-loop-item l = map plain_item l.made ++ map item_tree (drop l.item-index l.items) ≡ map item_tree l.items

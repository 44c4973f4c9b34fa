use Rattle.std.proofs.Common.{◌≡◌, ◌+◌, ◌*◌, ◌≤◌, drop, map, max, codes}
use Rattle.oc_ast.specs.declared.expression.Atom.TheViews.{size-Atom, size-Full, size-Item, size-MExp, size-RBind, size-Simple, weight-Atom-Tuple-1, weight-Full-Match-1, weight-Full-LetMod-1, weight-Full-LetRecIn-0}
use Rattle.tl_text.specs.Pairs.{map_second}
use Rattle.oc_ast.specs.View.{plain_atom, plain_full, plain_item, plain_rbind, row_of_atoms, row_of_arms, row_of_items, row_of_binds}
use Rattle.oc_layout.specs.Layout as layout
use Rattle.oc_print.proofs.expressions.+expressions.Given as goal

abbrev pub invariant-list_items-loop-part : goal.invariant-list_items-loop-part
invariant-list_items-loop-part l = layout.more_atoms (codes ";") (row_of_atoms (map plain_atom (drop l.part-index l.rest))) l.pen ≡ layout.more_atoms (codes ";") (row_of_atoms (map plain_atom l.rest)) l.initial.pen

abbrev pub invariant-more_atoms-loop-part : goal.invariant-more_atoms-loop-part
invariant-more_atoms-loop-part l = layout.more_atoms l.between (row_of_atoms (map plain_atom (drop l.part-index l.parts))) l.pen ≡ layout.more_atoms l.between (row_of_atoms (map plain_atom l.parts)) l.fn.pen

abbrev pub invariant-arms-loop-row : goal.invariant-arms-loop-row
invariant-arms-loop-row l = layout.arms l.indentation (row_of_arms (map_second plain_atom (drop l.row-index l.rows))) l.pen ≡ layout.arms l.indentation (row_of_arms (map_second plain_atom l.rows)) l.fn.pen

abbrev pub invariant-structure-loop-it : goal.invariant-structure-loop-it
invariant-structure-loop-it l = layout.items l.indentation (row_of_items (map plain_item (drop l.it-index l.inner))) l.pen ≡ layout.items l.indentation (row_of_items (map plain_item l.inner)) l.initial.pen

abbrev pub invariant-rec_bindings-loop-binding : goal.invariant-rec_bindings-loop-binding
invariant-rec_bindings-loop-binding l = layout.more_rbinds (row_of_binds (map plain_rbind (drop l.binding-index l.rest))) l.pen ≡ layout.more_rbinds (row_of_binds (map plain_rbind l.rest)) l.initial.pen

-- along a chain of bindings the rest of it adds what is left to add
abbrev pub invariant-full-chain : goal.invariant-full-chain
invariant-full-chain l = (layout.full (plain_full l.at) l.pen ≡ layout.full (plain_full l.fn.exp) l.fn.pen) × (size-Full l.at ≤ size-Full l.fn.exp)

abbrev pub decreases-atom : goal.decreases-atom
decreases-atom l = 4 * size-Atom l.exp.now

abbrev pub decreases-list_items : goal.decreases-list_items
decreases-list_items l = 4 * weight-Atom-Tuple-1 l.parts.now + 1

abbrev pub decreases-more_atoms : goal.decreases-more_atoms
decreases-more_atoms l = 4 * weight-Atom-Tuple-1 l.parts.now + 1

abbrev pub decreases-arms : goal.decreases-arms
decreases-arms l = 4 * weight-Full-Match-1 l.rows.now + 1

abbrev pub decreases-full : goal.decreases-full
decreases-full l = 4 * size-Full l.exp.now

abbrev pub decreases-item : goal.decreases-item
decreases-item l = 4 * size-Item l.it.now

abbrev pub decreases-structure : goal.decreases-structure
decreases-structure l = 4 * weight-Full-LetMod-1 l.inner.now + 1

abbrev pub decreases-module : goal.decreases-module
decreases-module l = 4 * size-MExp l.exp.now

abbrev pub decreases-rec_bindings : goal.decreases-rec_bindings
decreases-rec_bindings l = 4 * weight-Full-LetRecIn-0 l.bindings.now + 1

abbrev pub decreases-rec_binding : goal.decreases-rec_binding
decreases-rec_binding l = 4 * size-RBind l.binding.now

abbrev pub decreases-simple : goal.decreases-simple
decreases-simple l = 4 * size-Simple l.exp.now

abbrev pub decreases-let_value : goal.decreases-let_value
decreases-let_value l = 4 * size-Simple l.right.now + 1

abbrev pub decreases-let_module : goal.decreases-let_module
decreases-let_module l = 4 * weight-Full-LetMod-1 l.inner.now + 2

abbrev pub decreases-choice : goal.decreases-choice
decreases-choice l = 4 * max (size-Atom l.test.now) (max (size-Atom l.first.now) (size-Atom l.other.now)) + 1

abbrev pub decreases-matching : goal.decreases-matching
decreases-matching l = 4 * max (size-Atom l.of.now) (weight-Full-Match-1 l.rows.now) + 2

abbrev pub decreases-repetition : goal.decreases-repetition
decreases-repetition l = 4 * max (size-Atom l.test.now) (size-Full l.inner.now) + 1

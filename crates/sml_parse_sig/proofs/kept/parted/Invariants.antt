use Rattle.std.proofs.Common.{◌≡◌, ◌++◌, map, max}
use Rattle.std.specs.Vec.Iter.{into_iter_items}
use Rattle.readers.specs.Forms.{highest}
use Rattle.sml_grammar_sig.specs.Sigs.{part_height, without_height}
use Rattle.sml_parse_sig.proofs.kept.parted.Given as goal

abbrev pub invariant-loop-item : goal.invariant-loop-item
invariant-loop-item l =
    (goal.iterator-loop-item).can_next l.item-iterator ×
    (goal.iterator-loop-item).is_finite l.item-iterator ×
    (l.found ++ map without_height (into_iter_items l.item-iterator) ≡ map without_height l.fn.items) ×
    (max l.height (highest part_height (into_iter_items l.item-iterator)) ≡ highest part_height l.fn.items)

use Rattle.std.proofs.Common.{◌≡◌, ◌∷◌, ◌++◌}
use Rattle.std.specs.Vec.Iter.{into_iter_items}
use Rattle.sml_parse_bind.proofs.copying.with_first.Given as goal

abbrev pub invariant-loop-other : goal.invariant-loop-other
invariant-loop-other l = (goal.iterator-loop-other).can_next l.other-iterator × (goal.iterator-loop-other).is_finite l.other-iterator × (l.all ++ into_iter_items l.other-iterator ≡ l.fn.first ∷ l.fn.others)

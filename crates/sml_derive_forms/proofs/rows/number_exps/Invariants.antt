use Rattle.std.proofs.Common.{◌≡◌, ◌++◌}
use Rattle.std.specs.Vec.Iter.{into_iter_items}
use Rattle.sml_derive_core.specs.Names.{numbered}
use Rattle.sml_derive_forms.proofs.rows.number_exps.Given as goal

abbrev pub invariant-loop-one : goal.invariant-loop-one
invariant-loop-one l =
    (goal.iterator-loop-one).can_next l.one-iterator ×
    (goal.iterator-loop-one).is_finite l.one-iterator ×
    (l.done ++ numbered l.place l.number (into_iter_items l.one-iterator) ≡ numbered l.place 1 l.fn.exps)

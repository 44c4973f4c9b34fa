use Rattle.std.proofs.Common.{◌≡◌, ◌++◌, map}
use Rattle.std.specs.Vec.Iter.{into_iter_items}
use Rattle.sml_derive_forms.specs.Functions.{clause_rule}
use Rattle.sml_derive_forms.proofs.functions.clause_rules.Given as goal

abbrev pub invariant-loop-one : goal.invariant-loop-one
invariant-loop-one l =
    (goal.iterator-loop-one).can_next l.one-iterator ×
    (goal.iterator-loop-one).is_finite l.one-iterator ×
    (l.done ++ map (clause_rule l.place) (into_iter_items l.one-iterator) ≡ map (clause_rule l.place) l.fn.clauses)

use Rattle.std.proofs.Common.{◌≡◌, ◌++◌, map}
use Rattle.std.specs.Vec.Iter.{into_iter_items}
use Rattle.sml_ast.specs.declared.bare_pat.BarePat.TheVariants as pat
use Rattle.sml_derive_forms.proofs.arguments.with_atoms.Given as goal

abbrev pub invariant-loop-one : goal.invariant-loop-one
invariant-loop-one l =
    (goal.iterator-loop-one).can_next l.one-iterator ×
    (goal.iterator-loop-one).is_finite l.one-iterator ×
    (l.done ++ map (pat.PAtom l.place) (into_iter_items l.one-iterator) ≡ l.fn.done ++ map (pat.PAtom l.place) l.fn.args)

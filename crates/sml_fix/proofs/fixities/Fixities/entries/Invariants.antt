use Rattle.std.proofs.Common.{◌≡◌, ◌++◌}
use Rattle.sml_fix.proofs.fixities.Fixities.entries.Given as goal

abbrev pub invariant-loop-vid : goal.invariant-loop-vid
invariant-loop-vid l =
    (goal.iterator-loop-vid).can_next l.vid-iterator ×
    (goal.iterator-loop-vid).is_finite l.vid-iterator ×
    (l.found.items ++ l.vid-iterator ≡ l.self.table.entries)

use Rattle.std.proofs.Common.{◌≡◌}
use Rattle.sml_fix.specs.Fixities as spec
use Rattle.sml_fix.proofs.Copies.{settled}
use Rattle.sml_fix.proofs.fixities.Fixities.copy.Given as goal

abbrev pub invariant-loop-vid : goal.invariant-loop-vid
invariant-loop-vid l =
    (goal.iterator-loop-vid).can_next l.vid-iterator ×
    (goal.iterator-loop-vid).is_finite l.vid-iterator ×
    (settled (spec.settings l.copy) l.vid-iterator ≡ settled spec.none l.self.table.entries)

use Rattle.std.proofs.Common.{◌≡◌, length}
use Rattle.sml_restrict_core.specs.Breaches.{after}
use Rattle.sml_restrict_core.specs.Repeats.{labels_twice}
use Rattle.sml_restrict_core.specs.Types.{labels}
use Rattle.sml_restrict_core.proofs.ty.check_labels.Given as goal

abbrev pub invariant-loop-field : goal.invariant-loop-field
invariant-loop-field g l = after l.found (labels_twice (labels l.rest)) ≡ after l.initial.found (labels_twice (labels l.fields))

abbrev pub decreases-loop-field : goal.decreases-loop-field
decreases-loop-field g l = length l.rest

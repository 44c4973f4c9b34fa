use Rattle.std.proofs.Common.{◌≡◌, drop}
use Rattle.sml_restrict_core.specs.Breaches.{after}
use Rattle.sml_restrict_core.specs.Repeats.{label_again}
use Rattle.sml_restrict_core.specs.Types.{labels}
use Rattle.sml_restrict_core.proofs.ty.check_label.Given as goal

abbrev pub invariant-loop-other : goal.invariant-loop-other
invariant-loop-other g l = after l.found (label_again l.label (labels (drop l.other-index l.others))) ≡ after l.initial.found (label_again l.label (labels l.others))

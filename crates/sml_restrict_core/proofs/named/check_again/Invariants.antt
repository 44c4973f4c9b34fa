use Rattle.std.proofs.Common.{◌≡◌, drop, map}
use Rattle.sml_restrict_core.specs.Breaches.{after}
use Rattle.sml_restrict_core.specs.Repeats.{again}
use Rattle.sml_restrict_core.proofs.named.check_again.Given as goal

abbrev pub invariant-loop-other : goal.invariant-loop-other
invariant-loop-other g l = after l.found (again l.name (map g.T.Named.named (drop l.other-index l.others))) ≡ after l.initial.found (again l.name (map g.T.Named.named l.others))

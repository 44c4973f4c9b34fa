use Rattle.std.proofs.Common.{◌≡◌, drop, map}
use Rattle.sml_restrict_core.specs.Breaches.{after, joined}
use Rattle.sml_restrict.specs.Programs.{val_breaches}
use Rattle.sml_restrict.proofs.sig.check_vals.Given as goal

abbrev pub invariant-loop-one : goal.invariant-loop-one
invariant-loop-one l = after l.found (joined (map val_breaches (drop l.one-index l.vals))) ≡ after l.initial.found (joined (map val_breaches l.vals))

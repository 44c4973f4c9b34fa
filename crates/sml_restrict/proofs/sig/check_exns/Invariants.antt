use Rattle.std.proofs.Common.{◌≡◌, drop, map}
use Rattle.sml_restrict_core.specs.Breaches.{after, joined}
use Rattle.sml_restrict.specs.Programs.{exn_breaches}
use Rattle.sml_restrict.proofs.sig.check_exns.Given as goal

abbrev pub invariant-loop-one : goal.invariant-loop-one
invariant-loop-one l = after l.found (joined (map exn_breaches (drop l.one-index l.exns))) ≡ after l.initial.found (joined (map exn_breaches l.exns))

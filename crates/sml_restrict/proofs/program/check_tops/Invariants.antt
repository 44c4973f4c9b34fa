use Rattle.std.proofs.Common.{◌≡◌, drop, map}
use Rattle.sml_restrict_core.specs.Breaches.{after, joined}
use Rattle.sml_restrict.specs.Programs.{top_breaches}
use Rattle.sml_restrict.proofs.program.check_tops.Given as goal

abbrev pub invariant-loop-one : goal.invariant-loop-one
invariant-loop-one l = after l.found (joined (map top_breaches (drop l.one-index l.tops))) ≡ after l.initial.found (joined (map top_breaches l.tops))

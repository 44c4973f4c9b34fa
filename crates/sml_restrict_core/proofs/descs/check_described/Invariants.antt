use Rattle.std.proofs.Common.{◌≡◌, drop, map}
use Rattle.sml_restrict_core.specs.Breaches.{after, joined}
use Rattle.sml_restrict_core.specs.Bindings.{described_breaches}
use Rattle.sml_restrict_core.proofs.descs.check_described.Given as goal

abbrev pub invariant-loop-one : goal.invariant-loop-one
invariant-loop-one l = after l.found (joined (map (described_breaches l.params) (drop l.one-index l.cons))) ≡ after l.initial.found (joined (map (described_breaches l.params) l.cons))

use Rattle.std.proofs.Common.{◌≡◌, length, map}
use Rattle.sml_restrict_core.specs.Breaches.{after}
use Rattle.sml_restrict_core.specs.Repeats.{twice}
use Rattle.sml_restrict_core.proofs.named.check_twice.Given as goal

abbrev pub invariant-loop-one : goal.invariant-loop-one
invariant-loop-one g l = after l.found (twice (map g.T.Named.named l.rest)) ≡ after l.initial.found (twice (map g.T.Named.named l.row))

abbrev pub decreases-loop-one : goal.decreases-loop-one
decreases-loop-one g l = length l.rest

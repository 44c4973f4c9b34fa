use Rattle.std.proofs.Common.{◌≡◌, length, map}
use Rattle.sml_restrict_core.specs.Breaches.{after, joined}
use Rattle.sml_restrict_core.specs.Bindings.{dat_desc_cons}
use Rattle.sml_restrict_core.specs.Repeats.{crossed}
use Rattle.sml_restrict_core.proofs.descs.check_described_crossed.Given as goal

abbrev pub invariant-loop-one : goal.invariant-loop-one
invariant-loop-one l = after l.found (crossed (map (λ c. c.0) l.rest) (joined (map dat_desc_cons l.binds))) ≡ after l.initial.found (crossed (map (λ c. c.0) l.cons) (joined (map dat_desc_cons l.binds)))

abbrev pub decreases-loop-one : goal.decreases-loop-one
decreases-loop-one l = length l.rest

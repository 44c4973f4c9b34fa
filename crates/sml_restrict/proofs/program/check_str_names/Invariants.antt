use Rattle.std.proofs.Common.{◌≡◌, length, map}
use Rattle.sml_restrict_core.specs.Breaches.{after}
use Rattle.sml_restrict_core.specs.Repeats.{twice}
use Rattle.sml_restrict.specs.Programs.{str_bind_breaches}
use Rattle.sml_restrict.proofs.program.check_str_names.Given as goal

abbrev pub invariant-loop-one : goal.invariant-loop-one
invariant-loop-one l = after l.found (twice (map (λ b. b.0) (map str_bind_breaches l.rest))) ≡ after l.initial.found (twice (map (λ b. b.0) (map str_bind_breaches l.binds)))

abbrev pub decreases-loop-one : goal.decreases-loop-one
decreases-loop-one l = length l.rest

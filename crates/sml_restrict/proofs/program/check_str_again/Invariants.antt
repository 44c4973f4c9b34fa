use Rattle.std.proofs.Common.{◌≡◌, drop, map}
use Rattle.sml_restrict_core.specs.Breaches.{after}
use Rattle.sml_restrict_core.specs.Repeats.{again}
use Rattle.sml_restrict.specs.Programs.{str_bind_breaches}
use Rattle.sml_restrict.proofs.program.check_str_again.Given as goal

abbrev pub invariant-loop-one : goal.invariant-loop-one
invariant-loop-one l = after l.found (again l.name (map (λ b. b.0) (map str_bind_breaches (drop l.one-index l.binds)))) ≡ after l.initial.found (again l.name (map (λ b. b.0) (map str_bind_breaches l.binds)))

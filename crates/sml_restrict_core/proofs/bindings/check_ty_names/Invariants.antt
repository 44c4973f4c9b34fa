use Rattle.std.proofs.Common.{◌≡◌, ◌++◌, length, map}
use Rattle.sml_restrict_core.specs.Breaches.{after}
use Rattle.sml_restrict_core.specs.Bindings.{dat_bind_name}
use Rattle.sml_restrict_core.specs.Repeats.{twice}
use Rattle.sml_restrict_core.proofs.bindings.check_ty_names.Given as goal

abbrev pub invariant-loop-one : goal.invariant-loop-one
invariant-loop-one l = after l.found (twice (map dat_bind_name l.rest ++ map (λ b. b.1) l.tys)) ≡ after l.initial.found (twice (map dat_bind_name l.binds ++ map (λ b. b.1) l.tys))

abbrev pub decreases-loop-one : goal.decreases-loop-one
decreases-loop-one l = length l.rest

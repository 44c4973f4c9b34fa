use Rattle.std.proofs.Common.{◌≡◌, drop, map}
use Rattle.sml_restrict_core.specs.Breaches.{after, joined}
use Rattle.sml_restrict_core.specs.Repeats.{twice}
use Rattle.sml_restrict.proofs.sig.check_vars.Given as goal

abbrev pub invariant-loop-one : goal.invariant-loop-one
invariant-loop-one l = after l.found (joined (map (λ x. twice x.0) (drop l.one-index l.tys))) ≡ after l.initial.found (joined (map (λ x. twice x.0) l.tys))

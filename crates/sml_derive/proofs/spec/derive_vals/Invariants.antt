use Rattle.std.proofs.Common.{◌≡◌, ◌++◌, drop, map}
use Rattle.sml_derive_core.specs.Types.{derived_ty}
use Rattle.sml_derive.proofs.spec.derive_vals.Given as goal

abbrev pub invariant-loop-one : goal.invariant-loop-one
invariant-loop-one l = l.done ++ map (λ x. (x.0, derived_ty x.1)) (drop l.one-index l.vals) ≡ map (λ x. (x.0, derived_ty x.1)) l.vals

use Rattle.std.proofs.Common.{◌≡◌, ◌++◌, drop, map}
use Rattle.sml_derive_core.specs.Bindings.{derived_con}
use Rattle.sml_derive_core.proofs.bindings.derive_cons.Given as goal

abbrev pub invariant-loop-one : goal.invariant-loop-one
invariant-loop-one l = l.done ++ map derived_con (drop l.one-index l.cons) ≡ map derived_con l.cons

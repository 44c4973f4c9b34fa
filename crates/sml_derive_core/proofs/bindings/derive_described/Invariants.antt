use Rattle.std.proofs.Common.{◌≡◌, ◌++◌, drop, map}
use Rattle.sml_derive_core.specs.Bindings.{described_con}
use Rattle.sml_derive_core.proofs.bindings.derive_described.Given as goal

abbrev pub invariant-loop-one : goal.invariant-loop-one
invariant-loop-one l = l.done ++ map described_con (drop l.one-index l.cons) ≡ map described_con l.cons

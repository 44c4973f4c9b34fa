use Rattle.std.proofs.Common.{◌≡◌, drop}
use Rattle.sml_derive_core.specs.Withtype.{bound}
use Rattle.sml_derive_core.proofs.withtype.bound_to.Given as goal

abbrev pub invariant-loop-one : goal.invariant-loop-one
invariant-loop-one l = bound l.name (drop l.one-index l.binds) ≡ bound l.name l.binds

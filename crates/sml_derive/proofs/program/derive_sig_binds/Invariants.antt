use Rattle.std.proofs.Common.{◌≡◌, ◌++◌, drop, map}
use Rattle.sml_derive.specs.Programs.{derived_sig_bind}
use Rattle.sml_derive.proofs.program.derive_sig_binds.Given as goal

abbrev pub invariant-loop-one : goal.invariant-loop-one
invariant-loop-one l = l.done ++ map derived_sig_bind (drop l.one-index l.binds) ≡ map derived_sig_bind l.binds

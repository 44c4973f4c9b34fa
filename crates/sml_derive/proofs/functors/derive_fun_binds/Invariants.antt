use Rattle.std.proofs.Common.{◌≡◌, ◌++◌, drop, map}
use Rattle.sml_derive.specs.Programs.{derived_fun_bind}
use Rattle.sml_derive.proofs.functors.derive_fun_binds.Given as goal

abbrev pub invariant-loop-one : goal.invariant-loop-one
invariant-loop-one l = l.done ++ map derived_fun_bind (drop l.one-index l.binds) ≡ map derived_fun_bind l.binds

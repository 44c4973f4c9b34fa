use Rattle.std.proofs.Common.{◌≡◌, ◌++◌, drop}
use Rattle.sml_derive.proofs.spec.copy_tys.Given as goal

abbrev pub invariant-loop-one : goal.invariant-loop-one
invariant-loop-one l = l.done ++ drop l.one-index l.tys ≡ l.tys

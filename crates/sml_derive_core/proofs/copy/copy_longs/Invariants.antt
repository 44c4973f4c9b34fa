use Rattle.std.proofs.Common.{◌≡◌, ◌++◌, drop}
use Rattle.sml_derive_core.proofs.copy.copy_longs.Given as goal

abbrev pub invariant-loop-one : goal.invariant-loop-one
invariant-loop-one l = l.done ++ drop l.one-index l.longs ≡ l.longs

use Rattle.std.proofs.Common.{◌≡◌, ◌++◌, drop, map}
use Rattle.sml_derive.specs.Programs.{derived_top}
use Rattle.sml_derive.proofs.program.derive_tops.Given as goal

abbrev pub invariant-loop-one : goal.invariant-loop-one
invariant-loop-one l = l.done ++ map derived_top (drop l.one-index l.tops) ≡ map derived_top l.tops

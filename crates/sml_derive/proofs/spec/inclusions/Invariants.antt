use Rattle.std.proofs.Common.{◌≡◌, ◌++◌, drop, map}
use Rattle.sml_derive.specs.Signatures.{included}
use Rattle.sml_derive.proofs.spec.inclusions.Given as goal

abbrev pub invariant-loop-one : goal.invariant-loop-one
invariant-loop-one l = l.done ++ map (included l.place) (drop l.one-index l.names) ≡ map (included l.place) l.names

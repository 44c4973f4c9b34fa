use Rattle.std.proofs.Common.{◌≡◌, ◌++◌, drop, map}
use Rattle.sml_derive.specs.Signatures.{synonym}
use Rattle.sml_derive.proofs.spec.synonyms.Given as goal

abbrev pub invariant-loop-one : goal.invariant-loop-one
invariant-loop-one l = l.done ++ map (synonym l.place) (drop l.one-index l.binds) ≡ map (synonym l.place) l.binds

use Rattle.std.proofs.Common.{◌≡◌, ◌++◌, drop, map}
use Rattle.sml_derive_core.specs.Withtype.{expanded_con}
use Rattle.sml_derive_core.proofs.withtype.expand_cons.Given as goal

abbrev pub invariant-loop-one : goal.invariant-loop-one
invariant-loop-one l = l.done ++ map (expanded_con l.binds l.params l.name) (drop l.one-index l.cons) ≡ map (expanded_con l.binds l.params l.name) l.cons

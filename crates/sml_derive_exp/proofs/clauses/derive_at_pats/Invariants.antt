use Rattle.std.proofs.Common.{◌≡◌, ◌++◌, drop, map}
use Rattle.sml_derive_core.specs.Patterns.{derived_at_pat}
use Rattle.sml_derive_exp.proofs.clauses.derive_at_pats.Given as goal

abbrev pub invariant-loop-one : goal.invariant-loop-one
invariant-loop-one l = l.done ++ map derived_at_pat (drop l.one-index l.pats) ≡ map derived_at_pat l.pats

use Rattle.std.proofs.Common.{◌≡◌, drop, map}
use Rattle.sml_restrict_core.specs.Breaches.{after, joined}
use Rattle.sml_restrict.specs.Expressions.{clause_facts, clauses_breaches}
use Rattle.sml_restrict.proofs.function.check_functions.Given as goal

abbrev pub invariant-loop-one : goal.invariant-loop-one
invariant-loop-one l = after l.found (joined (map clauses_breaches (map (map clause_facts) (drop l.one-index l.functions)))) ≡ after l.initial.found (joined (map clauses_breaches (map (map clause_facts) l.functions)))

use Rattle.std.proofs.Common.{◌≡◌, drop, map}
use Rattle.sml_restrict_core.specs.Breaches.{after, joined}
use Rattle.sml_restrict.specs.Expressions.{clause_facts, disagrees}
use Rattle.sml_restrict.proofs.function.check_others.Given as goal

abbrev pub invariant-loop-one : goal.invariant-loop-one
invariant-loop-one l = after l.found (joined (map (disagrees (clause_facts l.first)) (map clause_facts (drop l.one-index l.others)))) ≡ after l.initial.found (joined (map (disagrees (clause_facts l.first)) (map clause_facts l.others)))

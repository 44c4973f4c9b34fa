use Rattle.std.proofs.Common.{◌≡◌, length, map}
use Rattle.sml_restrict_core.specs.Breaches.{after}
use Rattle.sml_restrict_core.specs.Repeats.{twice}
use Rattle.sml_restrict.specs.Expressions.{clause_facts, function_names}
use Rattle.sml_restrict.proofs.function.check_function_names.Given as goal

abbrev pub invariant-loop-one : goal.invariant-loop-one
invariant-loop-one l = after l.found (twice (function_names (map (map clause_facts) l.rest))) ≡ after l.initial.found (twice (function_names (map (map clause_facts) l.functions)))

abbrev pub decreases-loop-one : goal.decreases-loop-one
decreases-loop-one l = length l.rest

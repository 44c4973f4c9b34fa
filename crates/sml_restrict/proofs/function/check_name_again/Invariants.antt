use Rattle.std.proofs.Common.{◌≡◌, drop, map}
use Rattle.sml_restrict_core.specs.Breaches.{after}
use Rattle.sml_restrict_core.specs.Repeats.{again}
use Rattle.sml_restrict.specs.Expressions.{clause_facts, function_names}
use Rattle.sml_restrict.proofs.function.check_name_again.Given as goal

abbrev pub invariant-loop-one : goal.invariant-loop-one
invariant-loop-one l = after l.found (again l.name (function_names (map (map clause_facts) (drop l.one-index l.functions)))) ≡ after l.initial.found (again l.name (function_names (map (map clause_facts) l.functions)))

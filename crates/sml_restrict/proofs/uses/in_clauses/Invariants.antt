use Rattle.std.proofs.Common.{◌≡◌, drop, map}
use Rattle.sml_restrict_core.specs.Repeats.{contains}
use Rattle.sml_restrict.specs.Expressions.{clause_facts, function_facts}
use Rattle.sml_restrict.proofs.uses.in_clauses.Given as goal

abbrev pub invariant-loop-one : goal.invariant-loop-one
invariant-loop-one l = contains l.name (function_facts (map clause_facts (drop l.one-index l.row))).uses ≡ contains l.name (function_facts (map clause_facts l.row)).uses

use Rattle.std.proofs.Common.{◌≡◌, drop, map}
use Rattle.sml_restrict_core.specs.Repeats.{contains}
use Rattle.sml_restrict.specs.Expressions.{clause_facts, functions_facts}
use Rattle.sml_restrict.proofs.uses.in_functions.Given as goal

abbrev pub invariant-loop-one : goal.invariant-loop-one
invariant-loop-one l = contains l.name (functions_facts (map (map clause_facts) (drop l.one-index l.row))).uses ≡ contains l.name (functions_facts (map (map clause_facts) l.row)).uses

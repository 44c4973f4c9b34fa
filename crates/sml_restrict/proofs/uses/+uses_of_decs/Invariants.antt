use Rattle.std.proofs.Common.{◌≡◌, drop, map}
use Rattle.sml_restrict_core.specs.Repeats.{contains}
use Rattle.sml_restrict.specs.Expressions.{all, dec_facts}
use Rattle.sml_restrict.proofs.uses.+uses_of_decs.Given as goal

abbrev pub invariant-in_decs-loop-one : goal.invariant-in_decs-loop-one
invariant-in_decs-loop-one l = contains l.name (all (map dec_facts (drop l.one-index l.row))).uses ≡ contains l.name (all (map dec_facts l.row)).uses

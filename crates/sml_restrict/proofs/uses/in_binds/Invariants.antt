use Rattle.std.proofs.Common.{◌≡◌, drop, map}
use Rattle.tl_text.specs.Pairs.{map_second}
use Rattle.sml_restrict_core.specs.Repeats.{contains}
use Rattle.sml_restrict.specs.Expressions.{all, bound, exp_facts}
use Rattle.sml_restrict.proofs.uses.in_binds.Given as goal

abbrev pub invariant-loop-one : goal.invariant-loop-one
invariant-loop-one l = contains l.name (all (map bound (map_second exp_facts (drop l.one-index l.row)))).uses ≡ contains l.name (all (map bound (map_second exp_facts l.row))).uses

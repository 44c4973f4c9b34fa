use Rattle.std.proofs.Common.{◌≡◌, drop, map}
use Rattle.tl_text.specs.Pairs.{map_second, seconds}
use Rattle.sml_restrict_core.specs.Repeats.{contains}
use Rattle.sml_restrict.specs.Expressions.{all, at_exp_facts, exp_facts, rule_facts}
use Rattle.sml_restrict.proofs.uses.+uses.Given as goal

abbrev pub invariant-in_at_exps-loop-one : goal.invariant-in_at_exps-loop-one
invariant-in_at_exps-loop-one l = contains l.name (all (map at_exp_facts (drop l.one-index l.row))).uses ≡ contains l.name (all (map at_exp_facts l.row)).uses

abbrev pub invariant-in_exps-loop-one : goal.invariant-in_exps-loop-one
invariant-in_exps-loop-one l = contains l.name (all (map exp_facts (drop l.one-index l.row))).uses ≡ contains l.name (all (map exp_facts l.row)).uses

abbrev pub invariant-in_fields-loop-one : goal.invariant-in_fields-loop-one
invariant-in_fields-loop-one l = contains l.name (all (seconds (map_second exp_facts (drop l.one-index l.row)))).uses ≡ contains l.name (all (seconds (map_second exp_facts l.row))).uses

abbrev pub invariant-in_rules-loop-one : goal.invariant-in_rules-loop-one
invariant-in_rules-loop-one l = contains l.name (all (map rule_facts (drop l.one-index l.row))).uses ≡ contains l.name (all (map rule_facts l.row)).uses

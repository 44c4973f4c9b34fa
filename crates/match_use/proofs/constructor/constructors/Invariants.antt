use Rattle.std.proofs.Common.{◌≡◌, ◌++◌, map, drop}
use Rattle.match_use.specs.Answer.{patterns_of}
use Rattle.match_use.specs.Standing.{standing_of, all_standing}
use Rattle.match_use.proofs.constructor.constructors.Given as goal

abbrev pub invariant-loop-rule : goal.invariant-loop-rule
invariant-loop-rule l = map standing_of l.found.items ++ all_standing (patterns_of (drop l.rule-index l.rules)) ≡ all_standing (patterns_of l.rules)

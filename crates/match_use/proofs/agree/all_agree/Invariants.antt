use Rattle.std.proofs.Common.{◌≡◌, drop}
use Rattle.std.specs.List.{list_all}
use Rattle.match_use.specs.Alike.{agree}
use Rattle.match_use.specs.Answer.{patterns_of}
use Rattle.match_use.proofs.agree.all_agree.Given as goal

abbrev pub invariant-loop-rule : goal.invariant-loop-rule
invariant-loop-rule l = list_all (λ p. list_all (agree p) (patterns_of l.rules)) (patterns_of (drop l.rule-index l.rules)) ≡ list_all (λ p. list_all (agree p) (patterns_of l.rules)) (patterns_of l.rules)

use Rattle.std.proofs.Common.{◌≡◌, drop}
use Rattle.std.specs.List.{list_all}
use Rattle.match_use.specs.Alike.{agree}
use Rattle.match_use.specs.Answer.{patterns_of}
use Rattle.match_use.specs.Columns.{column_of}
use Rattle.match_use.proofs.agree.agrees_with_all.Given as goal

abbrev pub invariant-loop-rule : goal.invariant-loop-rule
invariant-loop-rule l = list_all (agree (column_of l.column)) (patterns_of (drop l.rule-index l.rules)) ≡ list_all (agree (column_of l.column)) (patterns_of l.rules)

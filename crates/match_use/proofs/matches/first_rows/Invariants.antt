use Rattle.std.proofs.Common.{◌≡◌, ◌++◌, drop}
use Rattle.match_use.specs.Lines.{lines_of}
use Rattle.match_use.specs.Answer.{patterns_of, lines_from}
use Rattle.match_use.proofs.matches.first_rows.Given as goal

abbrev pub invariant-loop-i : goal.invariant-loop-i
invariant-loop-i l = lines_of l.done.items ++ lines_from l.i (patterns_of (drop l.i l.rules)) ≡ lines_from 0 (patterns_of l.rules)

use Rattle.std.proofs.Common.{◌≡◌, drop}
use Rattle.sml_fix.specs.Fixities.{settings}
use Rattle.sml_grammar_exp.specs.ReadLevels.{some_listed}
use Rattle.sml_scope.specs.Scope.{said}
use Rattle.sml_scope.proofs.change.some_operator.Given as goal

abbrev pub invariant-loop-change : goal.invariant-loop-change
invariant-loop-change l = some_listed (settings l.fix) (said (drop l.change-index l.log)) ≡ some_listed (settings l.fix) (said l.log)

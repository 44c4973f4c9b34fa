use Rattle.std.proofs.Common.{◌≡◌, ◌++◌}
use Rattle.sml_fix.specs.Fixities.{entries}
use Rattle.sml_scope.proofs.scope.Scope.of.Given as goal

abbrev pub invariant-loop-name : goal.invariant-loop-name
invariant-loop-name l = l.scope ++ l.name-iterator.rest.items ≡ entries l.fn.fix

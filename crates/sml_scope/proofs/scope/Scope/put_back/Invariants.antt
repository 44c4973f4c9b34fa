use Rattle.std.proofs.Common.{◌≡◌, ◌++◌, reverse, vec_len}
use Rattle.sml_scope.specs.Scope.{said}
use Rattle.sml_scope.proofs.scope.Scope.put_back.Given as goal

abbrev pub invariant-shown : goal.invariant-shown
invariant-shown l = l.self ++ reverse (said l.taken.items) ≡ l.fn.self ++ reverse (said l.fn.taken.items)

abbrev pub decreases-shown : goal.decreases-shown
decreases-shown l = vec_len l.taken

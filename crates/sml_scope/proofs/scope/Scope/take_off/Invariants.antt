use Rattle.std.proofs.Common.{◌≡◌, ◌≤◌, ◌++◌, length, reverse}
use Rattle.sml_scope.specs.Scope.{said}
use Rattle.sml_scope.proofs.scope.Scope.take_off.Given as goal

abbrev pub invariant-shown : goal.invariant-shown
invariant-shown l = (l.inner ≤ length l.self) × (l.self ++ reverse (said l.taken.items) ≡ l.fn.self)

abbrev pub decreases-shown : goal.decreases-shown
decreases-shown l = length l.self

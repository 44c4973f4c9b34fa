use Rattle.std.proofs.Common.{◌≡◌, ◌≤◌, length, take}
use Rattle.sml_scope.proofs.scope.Scope.leave.Given as goal

abbrev pub invariant-inside : goal.invariant-inside
invariant-inside l = (l.outer ≤ length l.self) × (take l.outer l.self ≡ take l.outer l.fn.self)

abbrev pub decreases-inside : goal.decreases-inside
decreases-inside l = length l.self

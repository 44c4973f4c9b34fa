use Rattle.std.proofs.Common.{◌≡◌}
use Rattle.env_scope.specs.declared.tree.Tree.TheViews.{size-Tree}
use Rattle.env_scope.specs.Index.{bound, found}
use Rattle.env_scope.proofs.binding.find.Given as goal

abbrev pub invariant-levels : goal.invariant-levels
invariant-levels l = found l.tree l.bits l.name ≡ bound l.fn.tree l.name

abbrev pub decreases-levels : goal.decreases-levels
decreases-levels l = size-Tree l.tree

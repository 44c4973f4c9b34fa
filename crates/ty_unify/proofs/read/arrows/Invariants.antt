use Rattle.std.proofs.Common.{◌≡◌, length}
use Rattle.ty_unify.specs.Reading.{arrows_to}
use Rattle.ty_unify.proofs.read.arrows.Given as goal

abbrev pub invariant-loop-from : goal.invariant-loop-from
invariant-loop-from l = arrows_to l.froms.items l.to ≡ arrows_to l.initial.froms.items l.initial.to

abbrev pub decreases-loop-from : goal.decreases-loop-from
decreases-loop-from l = length l.froms.items

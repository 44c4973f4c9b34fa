use Rattle.std.proofs.Common.{drop, length, map}
use Rattle.tl_text.specs.Pairs.{map_second}
use Rattle.ty_unify.specs.declared.cell.Sort.TheVariants as sort
use Rattle.ty_unify.specs.Building.{RowMade, under, more_fields, more_args}
use Rattle.ty_unify.proofs.store.Store.+build.Given as goal

abbrev pub invariant-build_record-loop-left : goal.invariant-build_record-loop-left
invariant-build_record-loop-left l = RowMade l.fn.self l.self l.rest sort.Fields l.left (length l.fields) (λ θ. more_fields (map_second (under θ) (drop l.left l.fields)))

abbrev pub invariant-build_named-loop-left : goal.invariant-build_named-loop-left
invariant-build_named-loop-left l = RowMade l.fn.self l.self l.rest sort.Arguments l.left (length l.args) (λ θ. more_args (map (under θ) (drop l.left l.args)))

abbrev pub decreases-build_record-loop-left : goal.decreases-build_record-loop-left
decreases-build_record-loop-left l = l.left

abbrev pub decreases-build_named-loop-left : goal.decreases-build_named-loop-left
decreases-build_named-loop-left l = l.left

use Rattle.std.specs.BTreeSet.{btree_set_len}
use Rattle.eq_types.specs.Rows.{Holds}
use Rattle.eq_types.proofs.row.equality_set.Given as goal

abbrev pub invariant-loop : goal.invariant-loop
invariant-loop l = Holds l.binds l.set

abbrev pub decreases-loop : goal.decreases-loop
decreases-loop l = btree_set_len l.set

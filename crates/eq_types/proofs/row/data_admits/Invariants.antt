use Rattle.std.proofs.Common.{◌≡◌, drop}
use Rattle.std.specs.List.{list_all}
use Rattle.eq_types.specs.Rows.{argument_by, in_set}
use Rattle.eq_types.proofs.row.data_admits.Given as goal

abbrev pub invariant-loop-con : goal.invariant-loop-con
invariant-loop-con l = list_all (λ c. argument_by (in_set l.set) c.1) (drop l.con-index l.con-items) ≡ list_all (λ c. argument_by (in_set l.set) c.1) l.con-items

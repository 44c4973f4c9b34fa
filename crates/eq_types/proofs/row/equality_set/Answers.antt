use Rattle.eq_types.proofs.Rows.{greatest_set}
use Rattle.eq_types.proofs.row.equality_set.Goals as goal

pub returns : goal.returns
returns c = greatest_set c.args.binds.now c.strike.new.set c.in_ok-names.names c.loop-test.ensures.holds c.loop-test.ensures.end c.in_ok-names.ensures

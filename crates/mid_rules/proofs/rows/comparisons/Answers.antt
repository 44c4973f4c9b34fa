use Rattle.mid_rules.proofs.RowsMean.{chars_compare, ints_compare, ints_equal, strings_compare}
use Rattle.mid_rules.proofs.rows.comparisons.Goals as goal

pub returns : goal.returns
returns c = record { ints = ints_compare; chars = chars_compare; strings = strings_compare; equal = ints_equal }

use Rattle.mid_rules.proofs.RowsMean.{assign_puts, before_is_first, content_is_read, ignore_ignores, not_negates, print_writes, size_is_length}
use Rattle.mid_rules.proofs.rows.simple_rows.Goals as goal

pub returns : goal.returns
returns c = record { print = print_writes; ignore = ignore_ignores; size = size_is_length; negation = not_negates; content = content_is_read; assignment = assign_puts; before = before_is_first }

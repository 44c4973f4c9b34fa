use Rattle.run_types.proofs.RowTyped.{written_row_ok}
use Rattle.run_types.proofs.laws.written_row.Goals as goal

pub returns : goal.returns
returns c = written_row_ok

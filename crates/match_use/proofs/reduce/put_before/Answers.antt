use Rattle.std.proofs.Common.{ℕ, List, ap, ◌∷◌, ◌∙◌}
use Rattle.sml_static.specs.Shapes.{Pattern}
use Rattle.match_use.specs.Columns.{column_of}
use Rattle.match_use.specs.Lines.{Line, columns_of}
use Rattle.match_use.specs.declared.row.Columns.{Columns}
use Rattle.match_use.proofs.Rows.{columns_of-more}
use Rattle.match_use.proofs.reduce.put_before.Goals as goal

with_columns : ℕ → List Pattern → Line
with_columns n ps = record { rule = n; columns = ps }

pub returns : goal.returns
unfolding with_columns
returns c = ap (with_columns c.args.rule) (columns_of-more c.args.first _ ∙ ap (λ (x : Columns). column_of c.args.first ∷ columns_of x) c.in_ok-others.ensures)

use Rattle.std.proofs.Common.{◌≡◌, ◌∷◌, List, Some, sym, ap, subst, ◌∙◌}
use Rattle.sml_static.specs.Shapes.{Pattern}
use Rattle.match_use.specs.Columns.{column_of, begin_of}
use Rattle.match_use.specs.Keys.{shared_key}
use Rattle.match_use.specs.Lines.{line_of, columns_of}
use Rattle.match_use.specs.Steps.{LeftForOwn}
use Rattle.match_use.proofs.Rows.{columns_of-more}
use Rattle.match_use.proofs.Keeping.{left_literal, left_made}
use Rattle.match_use.proofs.kept.left_for_own.Goals as goal
use Rattle.match_use.proofs.kept.left_for_own.Goals.{in-Literal, in-Made}

pub returns : goal.returns
returns c =
    let others = columns_of c.in-More.others.now in
    let columns : columns_of c.args.row.columns ≡ begin_of c.beginning.result ∷ others =
    ap columns_of c.in-More.is ∙ columns_of-more c.in-More.column c.in-More.others ∙ ap (λ p. p ∷ others) (sym c.beginning.ensures) in
    elim c.match-beginning.branch [
      | in-Literal w ↦
          subst (λ (x : List Pattern). LeftForOwn (line_of c.args.row) (Some (record { rule = c.args.row.rule; columns = x }))) (sym (ap columns_of w.columns-is))
          (left_literal (line_of c.args.row) w.in-Literal.field-0.now others (columns ∙ ap (λ b. begin_of b ∷ others) w.in-Literal.is))
      | in-Made w ↦
          subst (λ (x : List Pattern). LeftForOwn (line_of c.args.row) (Some (record { rule = c.args.row.rule; columns = x }))) (sym (ap columns_of w.columns-is ∙ columns_of-more w.in-Made.argument c.in-More.others))
          (left_made (line_of c.args.row) (shared_key w.in-Made.field-0) w.in-Made.field-1 (column_of w.in-Made.argument) others (columns ∙ ap (λ b. begin_of b ∷ others) w.in-Made.is))
    ]

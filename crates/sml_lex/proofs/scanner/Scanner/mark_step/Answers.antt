use Rattle.std.proofs.Common.{ap, sym, ◌∙◌, take}
use Rattle.tl_cases.specs.Rows.{value_at}
use Rattle.tl_cases.specs.Words.{sml_rows}
use Rattle.sml_lex.proofs.Symbols.{mark_longest, mark_nothing}
use Rattle.sml_lex.proofs.scanner.Scanner.mark_step.Goals as goal

pub returns-in-Some-clause-value : goal.returns-in-Some-clause-value
returns-in-Some-clause-value c =
    rw c.mark_length-n.ensures.value (mark_longest c.args.bytes.now c.in-Some.word c.requires
    (ap (λ n. value_at (take n c.args.bytes.now) sml_rows) (sym c.mark_length-n.ensures.value) ∙ ap (λ l. value_at l sml_rows) (sym c.split_at.ensures.front) ∙ sym c.in-Some.ensures))

pub returns-in-None-clause-value : goal.returns-in-None-clause-value
returns-in-None-clause-value c =
    mark_nothing c.args.bytes.now c.requires
    (ap (λ n. value_at (take n c.args.bytes.now) sml_rows) (sym c.mark_length-n.ensures.value) ∙ ap (λ l. value_at l sml_rows) (sym c.split_at.ensures.front) ∙ sym c.in-None.ensures)

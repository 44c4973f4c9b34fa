use Rattle.std.proofs.Common.{ap, sym, ◌∙◌, take}
use Rattle.tl_cases.specs.Rows.{value_at}
use Rattle.tl_cases.specs.Words.{sml_rows}
use Rattle.sml_lex.proofs.Ids.{name_word}
use Rattle.sml_lex.proofs.scanner.Scanner.name_step.Goals as goal

pub returns-in-Some-clause-value : goal.returns-in-Some-clause-value
returns-in-Some-clause-value c =
    rw c.run-n.ensures.value (name_word c.args.bytes.now c.in-Some.word c.requires
    (ap (λ n. value_at (take n c.args.bytes.now) sml_rows) (sym c.run-n.ensures.value) ∙ ap (λ l. value_at l sml_rows) (sym c.split_at.ensures.front) ∙ sym c.in-Some.ensures))

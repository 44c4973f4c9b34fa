use Rattle.std.proofs.Common.{◌∷◌, ◌++◌, [], List, ℕ, ap, sym, ◌∙◌, take}
use Rattle.tl_cases.specs.Rows.{value_at}
use Rattle.tl_cases.specs.Words.{sml_rows}
use Rattle.sml_lex.proofs.Symbols.{symbol_word, symbol_id}
use Rattle.sml_lex.proofs.scanner.Scanner.symbol_step.Goals as goal

pub returns-in-Some-clause-value : goal.returns-in-Some-clause-value
returns-in-Some-clause-value c =
    rw c.run-n.ensures.value (symbol_word c.args.bytes.now c.in-Some.word c.requires.symbol c.requires.no_number
    (ap (λ n. value_at (take n c.args.bytes.now) sml_rows) (sym c.run-n.ensures.value) ∙ ap (λ l. value_at l sml_rows) (sym c.split_at.ensures.front) ∙ sym c.in-Some.ensures))

pub returns-in_ok-push-in-None-clause-value : goal.returns-in_ok-push-in-None-clause-value
returns-in_ok-push-in-None-clause-value c =
    let path = c.in_ok-push-in-None.ensures.ok ∙ ap (λ p. p ++ c.in_ok-new-in-None.field-0 ∷ []) c.new-path.ensures ∙ ap (λ (q : List ℕ). [] ++ q ∷ []) (c.in_ok-new-in-None.ensures ∙ c.split_at.ensures.front) in
    rw (path, c.run-n.ensures.value) (symbol_id c.args.bytes.now c.requires.symbol c.requires.no_number
    (ap (λ n. value_at (take n c.args.bytes.now) sml_rows) (sym c.run-n.ensures.value) ∙ ap (λ l. value_at l sml_rows) (sym c.split_at.ensures.front) ∙ sym c.in-None.ensures))

use Rattle.std.proofs.Common.{ap, subst, ◌∙◌}
use Rattle.sml_lex.specs.Literals.{BodyReads}
use Rattle.sml_lex.specs.Steps.{CharStep, char_reads, char_fails, char_step}
use Rattle.sml_lex.proofs.scanner.Scanner.char_step.Goals as goal

pub returns-in-Open-clause-value : goal.returns-in-Open-clause-value
returns-in-Open-clause-value c =
    let fails = subst (BodyReads c.split_at.result.1.now) c.in-Open.is c.in_ok-n.ensures.value in
    subst (λ l. CharStep l c.literal_fails.result) c.split_at.ensures.back (char_fails c.in-Open.n c.in-Open.code fails c.literal_fails.ensures.value)

pub returns-in-Read-clause-value : goal.returns-in-Read-clause-value
returns-in-Read-clause-value c =
    let reads = subst (BodyReads c.split_at.result.1.now) c.in-Read.is c.in_ok-n.ensures.value in
    subst (λ l. CharStep l c.char_of.result) c.split_at.ensures.back
    (char_reads c.in-Read.text.items c.in-Read.n reads (c.char_of.ensures.value ∙ ap (λ v. char_step v c.in-Read.n) c.as_slice.ensures.value))

use Rattle.std.proofs.Common.{◌+◌, ap, subst, ◌∙◌}
use Rattle.sml_lex.specs.declared.step.Step.TheVariants.{Take}
use Rattle.sml_lex.specs.declared.token.Kind.TheVariants.{Lit}
use Rattle.tl_text.specs.declared.lit.Lit.TheVariants.{Text}
use Rattle.sml_lex.specs.Literals.{BodyReads}
use Rattle.sml_lex.specs.Steps.{TextStep, text_reads, text_fails}
use Rattle.sml_lex.proofs.scanner.Scanner.text_step.Goals as goal

pub returns-in-Open-clause-value : goal.returns-in-Open-clause-value
returns-in-Open-clause-value c =
    let fails = subst (BodyReads c.split_at.result.1.now) c.in-Open.is c.in_ok-n.ensures.value in
    subst (λ l. TextStep l c.literal_fails.result) c.split_at.ensures.back (text_fails c.in-Open.n c.in-Open.code fails c.literal_fails.ensures.value)

pub returns-in_ok-name-in-Read-clause-value : goal.returns-in_ok-name-in-Read-clause-value
returns-in_ok-name-in-Read-clause-value c =
    let reads = subst (BodyReads c.split_at.result.1.now) c.in-Read.is c.in_ok-n.ensures.value in
    let name = c.in_ok-name-in-Read.ensures ∙ c.as_slice.ensures.value in
    subst (λ l. TextStep l (Take (Lit (Text c.in_ok-name-in-Read.name)) (c.in-Read.n + 1))) c.split_at.ensures.back (text_reads c.in-Read.text.items c.in-Read.n reads (ap (λ v. Take (Lit (Text v)) (c.in-Read.n + 1)) name))

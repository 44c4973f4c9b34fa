use Rattle.std.proofs.Common.{subst}
use Rattle.sml_lex.specs.Steps.{steps_by}
use Rattle.sml_lex.proofs.scanner.Scanner.step.Goals as goal

pub returns-in-Comment-clause-value : goal.returns-in-Comment-clause-value
returns-in-Comment-clause-value c = subst (λ x. steps_by x c.args.bytes.now c.comment_step.result) c.in-Comment.ensures c.comment_step.ensures.value

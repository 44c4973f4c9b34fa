use Rattle.std.proofs.Common.{◌∷◌, ap, subst, ◌∙◌}
use Rattle.sml_lex.specs.Steps.{RunStep}
use Rattle.sml_lex.proofs.Lists.{first_back}
use Rattle.sml_lex.proofs.number.number_step.Goals as goal

pub returns-then-bytes-eq126-clause-value : goal.returns-then-bytes-eq126-clause-value
returns-then-bytes-eq126-clause-value c = subst (λ l. RunStep l c.integer.result) (ap (λ l. 126 ∷ l) c.split_at.ensures.back ∙ first_back c.args.bytes.now 126 c.if-bytes-gt0.true c.if-bytes-eq126.true) c.integer.ensures.value

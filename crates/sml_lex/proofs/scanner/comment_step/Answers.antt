use Rattle.std.proofs.Common.{refl, subst, ◌+◌}
use Rattle.tl_text.specs.declared.code.Code.TheVariants.{OpenComment}
use Rattle.sml_lex.specs.declared.step.Step.TheVariants.{Skip, Fail}
use Rattle.sml_lex.specs.Steps.{CommentStep, closed, unclosed}
use Rattle.sml_lex.proofs.scanner.comment_step.Goals as goal

pub returns-in-Some-clause-value : goal.returns-in-Some-clause-value
returns-in-Some-clause-value c = subst (λ l. CommentStep l (Skip (c.in-Some.n + 2))) c.split_at.ensures.back (closed c.in-Some.n c.in-Some.ensures.found refl)

pub returns-in-None-clause-value : goal.returns-in-None-clause-value
returns-in-None-clause-value c = subst (λ l. CommentStep l (Fail 0 OpenComment)) c.split_at.ensures.back (unclosed c.in-None.ensures.none refl)

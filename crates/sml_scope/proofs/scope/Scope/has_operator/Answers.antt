use Rattle.std.proofs.Common.{ap, ◌∙◌}
use Rattle.sml_grammar_exp.specs.Decs.{fixed}
use Rattle.sml_grammar_exp.specs.ReadLevels.{some_listed}
use Rattle.sml_scope.specs.Scope.{said}
use Rattle.sml_scope.proofs.scope.Scope.has_operator.Goals as goal

pub returns : goal.returns
returns c =
    rw (c.some_operator.ensures, c.fixities-fix.ensures)
    (ap (λ cs. some_listed (fixed c.args.self.now) (said cs)) c.as_slice.ensures.value ∙ ap (some_listed (fixed c.args.self.now)) c.self.view_is)

use Rattle.std.proofs.Common.{ap, ◌∙◌}
use Rattle.sml_fix.specs.Fixities.{none, settings}
use Rattle.sml_grammar_exp.specs.Decs.{changed}
use Rattle.sml_scope.proofs.Scopes.{leads_on}
use Rattle.sml_scope.proofs.scope.Scope.fixities.Goals as goal

pub returns : goal.returns
returns c = leads_on none c.self.inside.log.items (settings c.self.inside.fix) c.self.invariant ∙ ap (changed none) c.self.view_is

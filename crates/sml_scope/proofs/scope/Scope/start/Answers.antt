use Rattle.sml_scope.proofs.Scopes.{first_leads}
use Rattle.sml_scope.proofs.scope.Scope.start.Goals as goal

pub invariant_of-result : goal.invariant_of-result
invariant_of-result c = rw (c.in_ok-log.ensures, c.in_ok-fix.ensures) first_leads

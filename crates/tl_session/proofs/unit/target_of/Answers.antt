use Rattle.std.proofs.Common.{subst}
use Rattle.tl_session.specs.LawfulItems.{LawfulTarget}
use Rattle.tl_session.proofs.BuiltItems.{may_be_named}
use Rattle.tl_session.proofs.unit.target_of.Goals as goal

pub mangle-requires : goal.mangle-requires
mangle-requires c = may_be_named c.in-Var.name (subst LawfulTarget c.in-Var.is c.requires)

use Rattle.std.proofs.Common.{arith}
use Rattle.sml_parse_mod.specs.Trees.{all_changes}
use Rattle.sml_parse_mod.proofs.Scopes.{front_short, outer_left}
use Rattle.sml_parse_mod.proofs.inside.Inside.scoped_decs.Goals as goal

pub leave-requires : goal.leave-requires
leave-requires g c = let l = front_short c.args.scope.now (all_changes c.in_ok-found.found.0) _ c.in_ok-found.ensures.moves in omega (arith, c.count-outer.ensures)

pub returns-clause-keeps : goal.returns-clause-keeps
returns-clause-keeps g c = outer_left c.args.scope.now (all_changes c.in_ok-found.found.0) _ _ _ c.in_ok-found.ensures.moves c.count-outer.ensures c.in_ok-leave.ensures

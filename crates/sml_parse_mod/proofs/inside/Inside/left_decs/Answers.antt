use Rattle.sml_parse_mod.specs.Trees.{all_changes}
use Rattle.sml_parse_mod.proofs.Moved.{shown_left}
use Rattle.sml_parse_mod.proofs.inside.Inside.left_decs.Goals as goal

pub returns-clause-leaves : goal.returns-clause-leaves
returns-clause-leaves g c = shown_left c.args.scope.now (all_changes c.in_ok-shown.shown.0) _ _ c.args.outer _ c.requires.order c.in_ok-shown.ensures.moves c.count-inner.ensures c.in_ok-leave_local.ensures

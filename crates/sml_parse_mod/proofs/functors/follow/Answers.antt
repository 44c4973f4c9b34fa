use Rattle.sml_parse_mod.specs.Levels as levels
use Rattle.sml_parse_mod.specs.Trees as trees
use Rattle.sml_parse_mod.proofs.Follows.{after_gives, after_still}
use Rattle.sml_parse_mod.proofs.functors.follow.Goals as goal

pub returns-clause-gives : goal.returns-clause-gives
returns-clause-gives c = rw c.after.ensures (after_gives trees.bind (levels.functor c.args.scope.now c.args.room) c.args.tokens.now c.in_ok-done.done _ c.in_ok-done.ensures _ c.bind.ensures.gives)

pub returns-clause-keeps : goal.returns-clause-keeps
returns-clause-keeps c = rw c.after.ensures (after_still trees.bind (levels.functor c.args.scope.now c.args.room) c.args.tokens.now c.in_ok-done.done _ c.in_ok-done.ensures _ _ c.bind.ensures.gives c.bind.ensures.keeps)

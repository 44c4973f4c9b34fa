use Rattle.env_arena.specs.Spelling.{spelled}
use Rattle.env_scope.specs.declared.tree.Tree.TheVariants as tree
use Rattle.env_scope.proofs.Forks.{agrees_empty, found_empty}
use Rattle.env_scope.proofs.extend.empty_scope.Goals as goal

pub returns-clause-index : goal.returns-clause-index
returns-clause-index c = agrees_empty tree.Empty (spelled c.in_ok-env.env.now) found_empty c.in_ok-env.ensures

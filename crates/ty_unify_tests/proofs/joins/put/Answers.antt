use Rattle.std.proofs.Common.{sym, ◌∙◌}
use Rattle.ty_unify.proofs.Building.{node_kept}
use Rattle.ty_unify_tests.proofs.Over.{over_fits, over_nodes}
use Rattle.ty_unify_tests.proofs.joins.put.Goals as goal

pub build-requires-clause-free : goal.build-requires-clause-free
build-requires-clause-free c =
    over_nodes c.args.a.number c.args.b.number c.args.store.now c.in_ok-ty.ty c.requires.a c.requires.b (sym c.is_over.ensures ∙ c.if-not-is_over.false)

pub build-requires-clause-closed : goal.build-requires-clause-closed
build-requires-clause-closed c = (over_fits c.args.a.number c.args.b.number c.in_ok-ty.ty (sym c.is_over.ensures ∙ c.if-not-is_over.false)).0

pub returns-clause-node : goal.returns-clause-node
returns-clause-node c = let m = c.in_ok-node.ensures.made.built in (m.node_in, m.node_sort)

pub returns-clause-nodes : goal.returns-clause-nodes
returns-clause-nodes c = λ i h. node_kept _ _ _ _ i c.in_ok-node.ensures.made.grown h

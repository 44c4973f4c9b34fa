use Rattle.std.proofs.Common.{◌≤◌}
use Rattle.oc_ast.specs.declared.expression.Atom.TheViews.{size-Rest}
use Rattle.oc_ast.proofs.+expressions.Given as goal

-- what is left of the chain is no deeper than the whole
abbrev pub invariant-rest::Rest::drop-chain : goal.invariant-rest::Rest::drop-chain
invariant-rest::Rest::drop-chain l = size-Rest l.self ≤ size-Rest l.fn.self

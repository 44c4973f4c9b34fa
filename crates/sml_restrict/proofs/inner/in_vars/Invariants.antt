use Rattle.std.proofs.Common.{◌≡◌, drop}
use Rattle.sml_restrict_core.specs.Breaches.{after}
use Rattle.sml_restrict.specs.Expressions.{dec_facts, rescoped}
use Rattle.sml_restrict.proofs.inner.in_vars.Given as goal

abbrev pub invariant-loop-one : goal.invariant-loop-one
invariant-loop-one l = after l.found (rescoped (dec_facts l.outer).scope (drop l.one-index l.vars)) ≡ after l.initial.found (rescoped (dec_facts l.outer).scope l.vars)

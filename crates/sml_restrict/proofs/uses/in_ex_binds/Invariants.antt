use Rattle.std.proofs.Common.{◌≡◌, drop, map}
use Rattle.sml_restrict_core.specs.Breaches.{joined}
use Rattle.sml_restrict_core.specs.Repeats.{contains}
use Rattle.sml_restrict.specs.Expressions.{ex_bind_tyvars}
use Rattle.sml_restrict.proofs.uses.in_ex_binds.Given as goal

abbrev pub invariant-loop-one : goal.invariant-loop-one
invariant-loop-one l = contains l.name (joined (map ex_bind_tyvars (drop l.one-index l.binds))) ≡ contains l.name (joined (map ex_bind_tyvars l.binds))

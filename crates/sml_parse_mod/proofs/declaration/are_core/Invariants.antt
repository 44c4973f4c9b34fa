use Rattle.std.proofs.Common.{◌≡◌, drop}
use Rattle.sml_parse_mod.specs.Trees.{are_core}
use Rattle.sml_parse_mod.proofs.declaration.are_core.Given as goal

abbrev pub invariant-loop-dec : goal.invariant-loop-dec
invariant-loop-dec l = are_core l.decs ≡ are_core (drop l.dec-index l.decs)

use Rattle.std.proofs.Common.{◌≡◌, ◌++◌}
use Rattle.sml_parse_mod.specs.Trees.{core_parts}
use Rattle.sml_parse_mod.proofs.declaration.cores.Given as goal

abbrev pub invariant-loop-dec : goal.invariant-loop-dec
invariant-loop-dec l = l.found ++ core_parts l.dec-iterator.rest.items ≡ core_parts l.fn.decs

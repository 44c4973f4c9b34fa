use Rattle.std.proofs.Common.{◌≡◌, ◌++◌, max}
use Rattle.sml_parse_mod.specs.Trees.{sigbinds_of}
use Rattle.sml_parse_mod.proofs.top.sigbinds_of.Given as goal

abbrev pub invariant-loop-name : goal.invariant-loop-name
invariant-loop-name l = (l.found ++ (sigbinds_of l.name-iterator.rest.items).0 ≡ (sigbinds_of l.fn.items).0) × (max l.height (sigbinds_of l.name-iterator.rest.items).1 ≡ (sigbinds_of l.fn.items).1)

use Rattle.std.proofs.Common.{◌≡◌, length}
use Rattle.readers.specs.Reader.{mapped}
use Rattle.sml_grammar_exp.specs.ReadDecs.{semis_read}
use Rattle.sml_parse_mod.specs.Levels as levels
use Rattle.sml_parse_mod.proofs.decs.semis.Given as goal

abbrev pub invariant-semicolons : goal.invariant-semicolons
invariant-semicolons l = mapped levels.no_tree semis_read l.tokens ≡ mapped levels.no_tree semis_read l.rest

abbrev pub decreases-semicolons : goal.decreases-semicolons
decreases-semicolons l = length l.rest

use Rattle.std.proofs.Common.{◌≡◌, length}
use Rattle.sml_grammar.specs.Tokens.{long_class}
use Rattle.sml_scan.proofs.class.long_class.Given as goal

abbrev pub invariant-parts : goal.invariant-parts
invariant-parts l = long_class l.rest ≡ long_class l.parts

abbrev pub decreases-parts : goal.decreases-parts
decreases-parts l = length l.rest

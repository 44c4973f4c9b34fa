use Rattle.std.proofs.Common.{◌≡◌, length}
use Rattle.sml_parse_mod.specs.Levels as levels
use Rattle.sml_parse_mod.specs.Trees as trees
use Rattle.sml_parse_mod.proofs.Growths.{growth}
use Rattle.sml_parse_mod.proofs.inside.all_grown.Given as goal

abbrev pub invariant-ascriptions : goal.invariant-ascriptions
invariant-ascriptions l = levels.all_grown l.room l.fn.found l.tokens ≡ growth l.room (trees.growing l.growing) l.rest

abbrev pub decreases-ascriptions : goal.decreases-ascriptions
decreases-ascriptions l = length l.rest

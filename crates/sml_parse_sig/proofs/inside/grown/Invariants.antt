use Rattle.std.proofs.Common.{◌≡◌, length}
use Rattle.sml_parse_sig.specs.Levels as levels
use Rattle.sml_parse_sig.proofs.Chains.{chain}
use Rattle.sml_parse_sig.proofs.inside.grown.Given as goal

abbrev pub invariant-types : goal.invariant-types
invariant-types l = levels.grown l.room l.fn.head l.tokens ≡ chain l.room l.found l.rest

abbrev pub decreases-types : goal.decreases-types
decreases-types l = length l.rest

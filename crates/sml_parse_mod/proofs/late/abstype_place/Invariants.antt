use Rattle.std.proofs.Common.{◌≡◌, length}
use Rattle.sml_parse_mod.specs.Late.{abstype_place}
use Rattle.sml_parse_mod.proofs.late.abstype_place.Given as goal

abbrev pub invariant-tokens : goal.invariant-tokens
invariant-tokens l = abstype_place l.tokens ≡ abstype_place l.rest

abbrev pub decreases-tokens : goal.decreases-tokens
decreases-tokens l = length l.rest

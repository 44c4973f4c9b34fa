use Rattle.std.proofs.Common.{◌≡◌, drop}
use Rattle.sml_parse_mod.specs.Late.{run_place}
use Rattle.sml_parse_mod.proofs.late.run_place.Given as goal

abbrev pub invariant-loop-top : goal.invariant-loop-top
invariant-loop-top l = run_place l.tops ≡ run_place (drop l.top-index l.tops)

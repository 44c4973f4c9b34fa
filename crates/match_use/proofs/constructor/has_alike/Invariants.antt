use Rattle.std.proofs.Common.{◌≡◌, map, drop}
use Rattle.std.specs.List.{list_any}
use Rattle.match_use.specs.Standing.{standing_of, is_alike}
use Rattle.match_use.proofs.constructor.has_alike.Given as goal

abbrev pub invariant-loop-other : goal.invariant-loop-other
invariant-loop-other l = list_any (is_alike (standing_of l.one)) (map standing_of (drop l.other-index l.found)) ≡ list_any (is_alike (standing_of l.one)) (map standing_of l.found)

use Rattle.std.proofs.Common.{◌≡◌, map, drop}
use Rattle.std.specs.List.{list_all}
use Rattle.match_use.specs.Standing.{standing_of, counts_agree}
use Rattle.match_use.proofs.constructor.has_same_count.Given as goal

abbrev pub invariant-loop-other : goal.invariant-loop-other
invariant-loop-other l = list_all (counts_agree (standing_of l.one)) (map standing_of (drop l.other-index l.found)) ≡ list_all (counts_agree (standing_of l.one)) (map standing_of l.found)

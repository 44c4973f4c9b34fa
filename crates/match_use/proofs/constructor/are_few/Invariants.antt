use Rattle.std.proofs.Common.{◌≡◌, map, drop}
use Rattle.match_use.specs.Standing.{standing_of, each_few}
use Rattle.match_use.proofs.constructor.are_few.Given as goal

abbrev pub invariant-loop-i : goal.invariant-loop-i
invariant-loop-i l = each_few (map standing_of l.found) (map standing_of (drop l.i l.found)) ≡ each_few (map standing_of l.found) (map standing_of l.found)

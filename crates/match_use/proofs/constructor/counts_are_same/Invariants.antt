use Rattle.std.proofs.Common.{◌≡◌, map, drop}
use Rattle.std.specs.List.{list_all}
use Rattle.match_use.specs.Standing.{standing_of, counts_agree, all_counts_agree}
use Rattle.match_use.proofs.constructor.counts_are_same.Given as goal

abbrev pub invariant-loop-one : goal.invariant-loop-one
invariant-loop-one l = list_all (λ c. list_all (counts_agree c) (map standing_of l.found)) (map standing_of (drop l.one-index l.found)) ≡ all_counts_agree (map standing_of l.found)

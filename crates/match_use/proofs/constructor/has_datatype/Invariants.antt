use Rattle.std.proofs.Common.{◌≡◌, map, drop}
use Rattle.std.specs.List.{list_any}
use Rattle.match_use.specs.Standing.{standing_of, is_of}
use Rattle.match_use.proofs.constructor.has_datatype.Given as goal

abbrev pub invariant-loop-one : goal.invariant-loop-one
invariant-loop-one l = list_any (is_of l.datatype) (map standing_of (drop l.one-index l.found)) ≡ list_any (is_of l.datatype) (map standing_of l.found)

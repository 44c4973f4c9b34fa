use Rattle.std.proofs.Common.{◌≡◌, ◌+◌, ◌≤◌, map, drop, length}
use Rattle.match_use.specs.Standing.{standing_of, names_of}
use Rattle.match_use.proofs.constructor.names_in.Given as goal

abbrev pub invariant-loop-i : goal.invariant-loop-i
invariant-loop-i l = record {
  names : l.count + length (names_of l.datatype (map standing_of (drop l.i l.found))) ≡ length (names_of l.datatype (map standing_of l.found));
  within : l.count ≤ l.i;
}

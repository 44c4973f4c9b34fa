use Rattle.std.proofs.Common.{◌≡◌, ℕ, ◌<◌, ◌≤◌, length, map, take, vec_len}
use Rattle.smltl.specs.Listing.{IsBadAt, names_among, lines_of, names_limit}
use Rattle.smltl.proofs.list.names_in.Given as goal

-- no line so far is bad, and the names are those among them
abbrev pub invariant-loop-i : goal.invariant-loop-i
invariant-loop-i l = record {
  good : (j : ℕ) → j < length l.yielded → IsBadAt l.list j → ⊥;
  few : vec_len l.names ≤ names_limit;
  told : map (λ n. n.now) l.names.items ≡ names_among (take (length l.yielded) (lines_of l.list));
}

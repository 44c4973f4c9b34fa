-- Calls by their numbers.
use Rattle.std.proofs.Common.{arith}
use Rattle.src_io.specs.Counted.{Counted, NoneFails, after_call}

-- where no call fails from here on, none does after the next
pub NoneFails-after : (calls : Counted) → NoneFails calls → NoneFails (after_call calls)
NoneFails-after calls none k below = none k (omega arith)

use Rattle.std.proofs.Common.{length}
use Rattle.match_use_tests.proofs.written.parts.Given as goal

abbrev pub decreases-loop-pat : goal.decreases-loop-pat
decreases-loop-pat l = length l.stack.items

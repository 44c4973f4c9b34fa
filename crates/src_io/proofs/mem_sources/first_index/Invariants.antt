use Rattle.std.proofs.Common.{◌≡◌, drop}
use Rattle.src_io.specs.Memory.{first_named}
use Rattle.src_io.proofs.mem_sources.first_index.Given as goal

abbrev pub invariant-loop-i : goal.invariant-loop-i
invariant-loop-i l = first_named (drop l.i l.held) l.name ≡ first_named l.held l.name

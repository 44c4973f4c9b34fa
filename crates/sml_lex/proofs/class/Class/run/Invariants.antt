use Rattle.std.proofs.Common.{◌≡◌, ◌+◌, drop}
use Rattle.std.specs.List.{prefix_len}
use Rattle.sml_lex.specs.Bytes.{has}
use Rattle.sml_lex.proofs.class.Class.run.Given as goal

abbrev pub invariant-loop-i : goal.invariant-loop-i
invariant-loop-i l = prefix_len (has l.self) l.bytes ≡ l.i + prefix_len (has l.self) (drop l.i l.bytes)

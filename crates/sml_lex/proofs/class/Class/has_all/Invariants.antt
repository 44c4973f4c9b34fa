use Rattle.std.proofs.Common.{◌≡◌, drop}
use Rattle.sml_lex.specs.Bytes.{has, all_are}
use Rattle.sml_lex.proofs.class.Class.has_all.Given as goal

abbrev pub invariant-loop-byte : goal.invariant-loop-byte
invariant-loop-byte l = all_are (has l.self) l.bytes ≡ all_are (has l.self) (drop l.byte-index l.bytes)

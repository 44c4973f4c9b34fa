use Rattle.std.proofs.Common.{◌≡◌, ◌+◌, ◌≤◌, drop}
use Rattle.sml_lex.specs.Places.{moved}
use Rattle.sml_lex.proofs.places.behind.Given as goal

abbrev pub invariant-loop-byte : goal.invariant-loop-byte
invariant-loop-byte l = record {
  so_far : moved l.fn.place l.bytes ≡ moved l.at (drop l.byte-index l.bytes);
  line : l.at.line ≤ l.fn.place.line + l.byte-index;
  col : l.at.col ≤ l.fn.place.col + l.byte-index;
  byte : l.at.byte ≡ l.fn.place.byte + l.byte-index;
}

use Rattle.std.proofs.Common.{◌≡◌, ◌+◌, ◌≤◌, length}
use Rattle.sml_lex.proofs.Lexed.{LexedTo}
use Rattle.sml_lex.proofs.source.lex.Given as goal

abbrev pub invariant-loop-tokens : goal.invariant-loop-tokens
invariant-loop-tokens l = record {
  lexed : LexedTo l.source l.bytes l.tokens l.rest l.place l.long;
  line : l.place.line ≤ l.place.byte + 1;
  col : l.place.col ≤ l.place.byte + 1;
  byte : l.place.byte + length l.rest ≡ length l.bytes;
}

abbrev pub decreases-loop-tokens : goal.decreases-loop-tokens
decreases-loop-tokens l = length l.rest

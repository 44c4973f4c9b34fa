use Rattle.std.proofs.Common.{◌≡◌, ◌+◌, length}
use Rattle.sml_lex.proofs.Bodies.{ReadTo}
use Rattle.sml_lex.proofs.literal.read_literal.Given as goal

abbrev pub invariant-loop-text : goal.invariant-loop-text
invariant-loop-text l = record {
  read : ReadTo l.bytes l.text.items l.rest l.at;
  within : l.at + length l.rest ≡ length l.bytes;
}

abbrev pub decreases-loop-text : goal.decreases-loop-text
decreases-loop-text l = length l.rest

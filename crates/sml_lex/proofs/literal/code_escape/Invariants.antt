use Rattle.std.proofs.Common.{◌≡◌, ◌≤◌, length, drop}
use Rattle.sml_lex.specs.Bytes.{has}
use Rattle.sml_lex.specs.Literals.{code_escape}
use Rattle.sml_lex.proofs.literal.code_escape.Given as goal

abbrev pub invariant-loop-i : goal.invariant-loop-i
invariant-loop-i l = record {
  so_far : code_escape (has l.class) l.long l.weights 0 l.bytes ≡ code_escape (has l.class) l.long (drop l.i l.weights) l.sum (drop l.i l.bytes);
  small : l.sum ≤ 255;
  within : l.i ≤ length l.bytes;
}

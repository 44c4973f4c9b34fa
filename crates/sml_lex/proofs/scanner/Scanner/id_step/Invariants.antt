use Rattle.std.proofs.Common.{◌≡◌, ◌+◌, length}
use Rattle.sml_lex.proofs.Ids.{IdRead}
use Rattle.sml_lex.proofs.scanner.Scanner.id_step.Given as goal

abbrev pub invariant-loop-rest : goal.invariant-loop-rest
invariant-loop-rest l = record {
  read : IdRead l.bytes l.path l.rest l.at;
  size : l.at + length l.rest ≡ length l.bytes;
}

abbrev pub decreases-loop-rest : goal.decreases-loop-rest
decreases-loop-rest l = length l.rest

use Rattle.std.proofs.Common.{◌≡◌, ◌≤◌, drop}
use Rattle.sml_lex.specs.declared.comment.Before.TheVariants.{Other}
use Rattle.sml_lex.specs.Marks.{run}
use Rattle.sml_lex.proofs.comment.comment_end.Given as goal

abbrev pub invariant-loop-i : goal.invariant-loop-i
invariant-loop-i l = record {
  shallow : l.depth ≤ l.i;
  same : run l.before l.depth (drop l.i l.bytes) ≡ run Other 0 l.bytes;
}

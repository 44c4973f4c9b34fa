use Rattle.std.proofs.Common.{sym, ◌∙◌, arith}
use Rattle.sml_lex.proofs.Comments.{loop_found, loop_turn, loop_none}
use Rattle.sml_lex.proofs.comment.comment_end.Goals as goal

pub returns-then-ends-clause-found : goal.returns-then-ends-clause-found
returns-then-ends-clause-found c =
    loop_found c.loop-i.before c.loop-i.depth c.loop-i.i c.args.bytes.now c.loop-i-test.true c.loop-i.invariant.same (sym c.ends.ensures ∙ c.if-ends.true)

pub loop-i-preserved : goal.loop-i-preserved
loop-i-preserved c = record {
  shallow = let small = c.next_depth-depth.ensures.small in let s = c.loop-i.invariant.shallow in omega arith;
  same =
      rw (c.next-before.ensures, c.next_depth-depth.ensures.value)
      (loop_turn c.loop-i.before c.loop-i.depth c.loop-i.i c.args.bytes.now c.loop-i-test.true c.loop-i.invariant.same (sym c.ends.ensures ∙ c.if-ends.false));
}

pub returns-clause-none : goal.returns-clause-none
returns-clause-none c n inside = loop_none c.loop-i.before c.loop-i.depth c.loop-i.i c.args.bytes.now c.loop-i-test.false c.loop-i.invariant.same n inside

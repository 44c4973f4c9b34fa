use Rattle.std.proofs.Common.{sym, arith}
use Rattle.sml_lex.proofs.Bodies.{char_read, gap_read, close_read, fail_read}
use Rattle.sml_lex.proofs.literal.read_literal.Goals as goal

pub returns-in-Close-clause-value : goal.returns-in-Close-clause-value
returns-in-Close-clause-value c = close_read _ _ _ _ c.loop-text.invariant.read (sym c.in-Close.ensures.value)

pub loop-text-preserved-in-Char : goal.loop-text-preserved-in-Char
loop-text-preserved-in-Char c =
    let read = char_read _ _ _ _ c.in-Char.value c.in-Char.n c.loop-text.invariant.read (sym c.in-Char.ensures.value) in
    let within = c.in-Char.ensures.within in
    record {
      read = rw (c.in_ok-push-in-Char.ensures.items, c.split_at.ensures.back) read;
      within = omega (arith, c.split_at.ensures.back_len, c.loop-text.invariant.within);
    }

pub loop-text-preserved : goal.loop-text-preserved
loop-text-preserved c =
    let read = gap_read _ _ _ _ c.in-Gap.n c.loop-text.invariant.read (sym c.in-Gap.ensures.value) in
    let within = c.in-Gap.ensures.within in
    record {
      read = rw c.split_at-in-Gap.ensures.back read;
      within = omega (arith, c.split_at-in-Gap.ensures.back_len, c.loop-text.invariant.within);
    }

pub returns-in-Fails-clause-value : goal.returns-in-Fails-clause-value
returns-in-Fails-clause-value c = fail_read _ _ _ _ _ c.loop-text.invariant.read (sym c.in-Fails.ensures.value)

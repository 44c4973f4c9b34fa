use Rattle.std.proofs.Common.{◌+◌, sym, ap, ◌∙◌, arith, drop}
use Rattle.sml_lex.specs.Places.{moved}
use Rattle.sml_lex.proofs.Moves.{moved_more, moved_end}
use Rattle.sml_lex.proofs.places.behind.Goals as goal

pub loop-byte-preserved : goal.loop-byte-preserved
loop-byte-preserved c =
    let line = c.next_place-at.ensures.line in
    let col = c.next_place-at.ensures.col in
    let byte = c.next_place-at.ensures.byte in
    record {
      so_far = c.loop-byte.invariant.so_far ∙ moved_more c.loop-byte.at c.args.bytes.now c.loop-byte.byte-index c.loop-byte-test.true
          ∙ ap (λ p. moved p (drop (c.loop-byte.byte-index + 1) c.args.bytes.now)) (sym c.next_place-at.ensures.value);
      line = omega (arith, c.loop-byte.invariant.line);
      col = omega (arith, c.loop-byte.invariant.col);
      byte = omega (arith, c.loop-byte.invariant.byte);
    }

pub returns-clause-value : goal.returns-clause-value
returns-clause-value c = sym (c.loop-byte.invariant.so_far ∙ moved_end c.loop-byte.at c.args.bytes.now c.loop-byte.byte-index c.loop-byte-test.false)

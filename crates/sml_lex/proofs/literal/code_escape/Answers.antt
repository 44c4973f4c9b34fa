use Rattle.std.proofs.Common.{sym, ◌∙◌}
use Rattle.sml_lex.specs.Bytes.{has}
use Rattle.sml_lex.proofs.Escapes.{code_open, code_other}
use Rattle.sml_lex.proofs.literal.code_escape.Goals as goal

pub returns-then-i-bytes-clause-value : goal.returns-then-i-bytes-clause-value
returns-then-i-bytes-clause-value c =
    sym (c.loop-i.invariant.so_far ∙ code_open (has c.args.class) c.args.long c.args.weights.now c.args.bytes.now c.loop-i.sum c.loop-i.i c.loop-i-test.true c.if-i-bytes.true)

pub returns-then-not-has-clause-value : goal.returns-then-not-has-clause-value
returns-then-not-has-clause-value c =
    sym (c.loop-i.invariant.so_far ∙ code_other (has c.args.class) c.args.long c.args.weights.now c.args.bytes.now c.loop-i.sum c.loop-i.i c.loop-i-test.true c.if-i-bytes.false (sym c.has.ensures ∙ c.if-not-has.true))

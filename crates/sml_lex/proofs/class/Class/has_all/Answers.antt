use Rattle.std.proofs.Common.{sym, ◌∙◌}
use Rattle.sml_lex.specs.Bytes.{has}
use Rattle.sml_lex.proofs.Lists.{all_more, all_less, all_end}
use Rattle.sml_lex.proofs.class.Class.has_all.Goals as goal

pub loop-byte-preserved : goal.loop-byte-preserved
loop-byte-preserved c = c.loop-byte.invariant ∙ all_more (has c.args.self) c.args.bytes.now c.loop-byte.byte-index c.loop-byte-test.true (sym c.has.ensures ∙ c.if-not-has.false)

pub returns-then-not-has : goal.returns-then-not-has
returns-then-not-has c = sym (c.loop-byte.invariant ∙ all_less (has c.args.self) c.args.bytes.now c.loop-byte.byte-index c.loop-byte-test.true (sym c.has.ensures ∙ c.if-not-has.true))

pub returns : goal.returns
returns c = sym (c.loop-byte.invariant ∙ all_end (has c.args.self) c.args.bytes.now c.loop-byte.byte-index c.loop-byte-test.false)

use Rattle.std.proofs.Common.{◌≡◌, ◌<◌, sym, ap, subst, ◌∙◌, arith}
use Rattle.std.specs.List.{prefix_len}
use Rattle.sml_lex.specs.Bytes.{is_hex, is_digit}
use Rattle.sml_lex.proofs.Runs.{run_passes}
use Rattle.sml_lex.proofs.NumberFronts.{hexword_front, word_decimal_front}
use Rattle.sml_lex.proofs.Numbers.{digits_hex}
use Rattle.sml_lex.proofs.number.word.Goals as goal

pub word_step-requires-clause-digits : goal.word_step-requires-clause-digits
word_step-requires-clause-digits c =
    rw (c.split_at.ensures.front, c.run-n.ensures.value) (run_passes is_hex c.behind_three-digits.result.now)

pub returns-then-n-gt0-clause-value : goal.returns-then-n-gt0-clause-value
returns-then-n-gt0-clause-value c =
    rw (c.word_step.ensures, c.split_at.ensures.front, c.run-n.ensures.value, c.behind_three-digits.ensures) (hexword_front c.args.bytes.now (subst (λ l. 0 < prefix_len is_hex l) c.behind_three-digits.ensures (omega (arith, c.run-n.ensures.value, c.if-n-gt0.true))))

pub word_step-requires-then-n-gt0-2-clause-digits : goal.word_step-requires-then-n-gt0-2-clause-digits
word_step-requires-then-n-gt0-2-clause-digits c =
    rw (c.split_at-then-n-gt0-2.ensures.front, c.run-n-2.ensures.value) (digits_hex c.behind_two-digits.result.now)

pub returns-then-n-gt0-2-clause-value : goal.returns-then-n-gt0-2-clause-value
returns-then-n-gt0-2-clause-value c =
    rw (c.word_step-then-n-gt0-2.ensures, c.split_at-then-n-gt0-2.ensures.front, c.run-n-2.ensures.value, c.behind_two-digits.ensures) (word_decimal_front c.args.bytes.now
    (subst (λ l. 0 < prefix_len is_digit l) c.behind_two-digits.ensures (omega (arith, c.run-n-2.ensures.value, c.if-n-gt0-2.true)))
    (subst (λ l. prefix_len is_hex l ≡ 0) c.behind_three-digits.ensures (omega (arith, c.run-n.ensures.value, c.if-n-gt0.false))))

pub returns-clause-none : goal.returns-clause-none
returns-clause-none c =
    let first = c.run-n.ensures.value in
    let second = c.run-n-2.ensures.value in
    record {
      hexadecimal = ap (prefix_len is_hex) (sym c.behind_three-digits.ensures) ∙ omega (arith, first, c.if-n-gt0.false);
      decimal = ap (prefix_len is_digit) (sym c.behind_two-digits.ensures) ∙ omega (arith, second, c.if-n-gt0-2.false);
    }

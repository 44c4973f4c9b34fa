use Rattle.std.proofs.Common.{◌≡◌, ◌<◌, sym, ap, subst, ◌∙◌, arith, drop, false}
use Rattle.std.specs.List.{prefix_len}
use Rattle.sml_lex.specs.Bytes.{is_hex, is_digit}
use Rattle.sml_lex.specs.Numbers.{behind_two, goes_on}
use Rattle.sml_lex.proofs.Runs.{run_passes}
use Rattle.sml_lex.proofs.Numbers.{Plain, digits_hex, decimal_step, real_step}
use Rattle.sml_lex.proofs.NumberFronts.{hexadecimal_front}
use Rattle.sml_lex.proofs.number.integer.Goals as goal

pub int_step-requires-clause-digits : goal.int_step-requires-clause-digits
int_step-requires-clause-digits c = rw (c.split_at.ensures.front, c.run-n.ensures.value) (run_passes is_hex c.behind_two-digits.result.now)

pub returns-then-n-gt0-clause-value : goal.returns-then-n-gt0-clause-value
returns-then-n-gt0-clause-value c =
    let some : 0 < prefix_len is_hex (behind_two 48 120 c.args.bytes.now) = subst (λ l. 0 < prefix_len is_hex l) c.behind_two-digits.ensures (omega (arith, c.run-n.ensures.value, c.if-n-gt0.true)) in
    rw (c.int_step.ensures, c.split_at.ensures.front, c.run-n.ensures.value, c.behind_two-digits.ensures, c.sign_length-sign.ensures.value) (hexadecimal_front c.args.negative c.args.bytes.now some)

pub int_step-requires-2-clause-digits : goal.int_step-requires-2-clause-digits
int_step-requires-2-clause-digits c = rw (c.split_at-2.ensures.front, c.run-n-2.ensures.value) (digits_hex c.args.bytes.now)

pub returns-then-goes_on-clause-value : goal.returns-then-goes_on-clause-value
returns-then-goes_on-clause-value c =
    let none : prefix_len is_hex (behind_two 48 120 c.args.bytes.now) ≡ 0 = subst (λ l. prefix_len is_hex l ≡ 0) c.behind_two-digits.ensures (omega (arith, c.run-n.ensures.value, c.if-n-gt0.false)) in
    let plain : Plain c.args.negative c.args.bytes.now = record { digit = c.requires.digit; hexadecimal = none; word = c.requires.no_word } in
    real_step c.args.negative c.args.bytes.now plain
    (ap (λ n. goes_on (drop n c.args.bytes.now)) (sym c.run-n-2.ensures.value) ∙ ap goes_on (sym c.split_at-2.ensures.back) ∙ sym c.goes_on.ensures ∙ c.if-goes_on.true)

pub returns-clause-value : goal.returns-clause-value
returns-clause-value c =
    let none : prefix_len is_hex (behind_two 48 120 c.args.bytes.now) ≡ 0 = subst (λ l. prefix_len is_hex l ≡ 0) c.behind_two-digits.ensures (omega (arith, c.run-n.ensures.value, c.if-n-gt0.false)) in
    let plain : Plain c.args.negative c.args.bytes.now = record { digit = c.requires.digit; hexadecimal = none; word = c.requires.no_word } in
    let stops : goes_on (drop (prefix_len is_digit c.args.bytes.now) c.args.bytes.now) ≡ false =
    ap (λ n. goes_on (drop n c.args.bytes.now)) (sym c.run-n-2.ensures.value) ∙ ap goes_on (sym c.split_at-2.ensures.back) ∙ sym c.goes_on.ensures ∙ c.if-goes_on.false in
    rw (c.int_step-2.ensures, c.split_at-2.ensures.front, c.run-n-2.ensures.value, c.sign_length-sign.ensures.value) (decimal_step c.args.negative c.args.bytes.now plain stops)

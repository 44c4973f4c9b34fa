use Rattle.std.proofs.Common.{◌≡◌, ◌+◌, ◌*◌, ◌<◌, cond, Some, None, sym, ap, ◌∙◌, arith, get_or, drop}
use Rattle.std.proofs.lemmas.Bool.{lt-leb}
use Rattle.sml_lex.specs.Bytes.{number, number_from, digit_value}
use Rattle.sml_lex.proofs.Digits.{grows, more}
use Rattle.sml_lex.proofs.number.value_of.Goals as goal

pub returns-in_default : goal.returns-in_default
returns-in_default c =
    let next = c.loop-digit.sum * c.args.base + digit_value (get_or c.args.digits.now c.loop-digit.digit-index 0) in
    let all : number c.args.base c.args.digits.now ≡ number_from c.args.base next (drop (c.loop-digit.digit-index + 1) c.args.digits.now) =
    c.loop-digit.invariant ∙ more c.args.base c.loop-digit.sum c.args.digits.now c.loop-digit.digit-index c.loop-digit-test.true in
    let big : c.args.most < number c.args.base c.args.digits.now =
    omega (arith, c.in_default.ensures, grows c.args.base next (drop (c.loop-digit.digit-index + 1) c.args.digits.now) c.requires.base, all) in
    sym (ap (λ b. cond b (Some (number c.args.base c.args.digits.now)) None) (lt-leb (number c.args.base c.args.digits.now) c.args.most big))

pub returns-in_default-checked_add : goal.returns-in_default-checked_add
returns-in_default-checked_add c =
    let next = c.loop-digit.sum * c.args.base + digit_value (get_or c.args.digits.now c.loop-digit.digit-index 0) in
    let all : number c.args.base c.args.digits.now ≡ number_from c.args.base next (drop (c.loop-digit.digit-index + 1) c.args.digits.now) =
    c.loop-digit.invariant ∙ more c.args.base c.loop-digit.sum c.args.digits.now c.loop-digit.digit-index c.loop-digit-test.true in
    let big : c.args.most < number c.args.base c.args.digits.now =
    omega (arith, c.in_default-checked_add.ensures, c.in-Some.ensures, c.digit_value.ensures.value, grows c.args.base next (drop (c.loop-digit.digit-index + 1) c.args.digits.now) c.requires.base, all) in
    sym (ap (λ b. cond b (Some (number c.args.base c.args.digits.now)) None) (lt-leb (number c.args.base c.args.digits.now) c.args.most big))

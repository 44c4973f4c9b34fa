use Rattle.std.proofs.Common.{◌∷◌, ◌++◌, [], ap, subst, ◌∙◌, arith, Err}
use Rattle.tl_text.specs.declared.fault.Fault.TheVariants.{Refused}
use Rattle.sml_lex.specs.Steps.{Steps}
use Rattle.sml_lex.specs.Texts.{Answers, Refuses}
use Rattle.sml_lex.proofs.Lexed.{made, lexed_start, lexed_skip, lexed_take, lexed_fail, lexed_done, answers_ok, answers_err}
use Rattle.sml_lex.proofs.Unique.{only_tokens, only_refusal}
use Rattle.sml_lex.proofs.source.lex.Goals as goal

pub loop-tokens-init : goal.loop-tokens-init
loop-tokens-init c = record {
  lexed = rw c.new-tokens.ensures (lexed_start c.args.source c.args.bytes.now);
  line = omega arith;
  col = omega arith;
  byte = omega arith;
}

done : (c : goal.After-finish) → Answers c.args.source c.args.bytes.now c.finish.result
done c =
    let step = subst (Steps c.loop-tokens.rest.now) c.in-Done.is c.in_ok-step.ensures.value in
    lexed_done c.args.source c.args.bytes.now c.loop-tokens.tokens c.loop-tokens.rest.now c.loop-tokens.place c.loop-tokens.long c.finish.result c.loop-tokens.invariant.lexed step c.finish.ensures

pub returns-in-Done-clause-accepted : goal.returns-in-Done-clause-accepted
returns-in-Done-clause-accepted c = answers_ok c.args.source c.args.bytes.now c.finish.result (done c)

pub returns-in-Done-clause-refused : goal.returns-in-Done-clause-refused
returns-in-Done-clause-refused c = answers_err c.args.source c.args.bytes.now c.finish.result (done c)

pub returns-in-Done-clause-only_tokens : goal.returns-in-Done-clause-only_tokens
returns-in-Done-clause-only_tokens c = only_tokens c.args.source c.args.bytes.now c.finish.result (done c)

pub returns-in-Done-clause-only_refusal : goal.returns-in-Done-clause-only_refusal
returns-in-Done-clause-only_refusal c = only_refusal c.args.source c.args.bytes.now c.finish.result (done c)

pub loop-tokens-preserved-in-Skip : goal.loop-tokens-preserved-in-Skip
loop-tokens-preserved-in-Skip c =
    let step = subst (Steps c.loop-tokens.rest.now) c.in-Skip.is c.in_ok-step.ensures.value in
    let lexed = lexed_skip c.args.source c.args.bytes.now c.loop-tokens.tokens c.loop-tokens.rest.now c.loop-tokens.place c.loop-tokens.long c.in-Skip.n c.loop-tokens.invariant.lexed step in
    let size = c.split_at.ensures.front_len in
    let rest = c.split_at.ensures.back_len in
    record {
      lexed = rw (c.split_at.ensures.back, c.behind-place.ensures.value, c.split_at.ensures.front) lexed;
      line = omega (arith, c.behind-place.ensures.line, c.behind-place.ensures.byte, c.loop-tokens.invariant.line, size);
      col = omega (arith, c.behind-place.ensures.col, c.behind-place.ensures.byte, c.loop-tokens.invariant.col, size);
      byte = omega (arith, c.behind-place.ensures.byte, c.loop-tokens.invariant.byte, size, rest);
    }

refused : (c : goal.After-drop-tokens-in-Fail) → Refuses c.args.source c.args.bytes.now (record { place = c.behind-place-in-Fail.result; code = c.in-Fail.code })
refused c =
    let step = subst (Steps c.loop-tokens.rest.now) c.in-Fail.is c.in_ok-step.ensures.value in
    let fails = lexed_fail c.args.source c.args.bytes.now c.loop-tokens.tokens c.loop-tokens.rest.now c.loop-tokens.place c.loop-tokens.long c.in-Fail.n c.in-Fail.code c.loop-tokens.invariant.lexed step in
    rw (c.behind-place-in-Fail.ensures.value, c.split_at-in-Fail.ensures.front) fails

pub returns-in-Fail-clause-refused : goal.returns-in-Fail-clause-refused
returns-in-Fail-clause-refused c = refused c

pub returns-in-Fail-clause-only_tokens : goal.returns-in-Fail-clause-only_tokens
returns-in-Fail-clause-only_tokens c = only_tokens c.args.source c.args.bytes.now (Err (Refused (record { place = c.behind-place-in-Fail.result; code = c.in-Fail.code }))) (refused c)

pub returns-in-Fail-clause-only_refusal : goal.returns-in-Fail-clause-only_refusal
returns-in-Fail-clause-only_refusal c = only_refusal c.args.source c.args.bytes.now (Err (Refused (record { place = c.behind-place-in-Fail.result; code = c.in-Fail.code }))) (refused c)

pub loop-tokens-preserved : goal.loop-tokens-preserved
loop-tokens-preserved c =
    let step = subst (Steps c.loop-tokens.rest.now) c.in-Take.is c.in_ok-step.ensures.value in
    let lexed = lexed_take c.args.source c.args.bytes.now c.loop-tokens.tokens c.loop-tokens.rest.now c.loop-tokens.place c.loop-tokens.long c.in-Take.kind c.in-Take.n c.loop-tokens.invariant.lexed step in
    let size = c.split_at-in-Take.ensures.front_len in
    let rest = c.split_at-in-Take.ensures.back_len in
    let token = c.token_of.ensures ∙ ap (made c.in-Take.kind c.loop-tokens.place) c.split_at-in-Take.ensures.front in
    let tokens = c.in_ok-push-in-Take.ensures.ok ∙ ap (λ t. c.loop-tokens.tokens ++ t ∷ []) token in
    record {
      lexed = rw (tokens, c.split_at-in-Take.ensures.back, c.behind-place-in-Take.ensures.value, c.split_at-in-Take.ensures.front, c.first_long-long.ensures) lexed;
      line = omega (arith, c.behind-place-in-Take.ensures.line, c.behind-place-in-Take.ensures.byte, c.loop-tokens.invariant.line, size);
      col = omega (arith, c.behind-place-in-Take.ensures.col, c.behind-place-in-Take.ensures.byte, c.loop-tokens.invariant.col, size);
      byte = omega (arith, c.behind-place-in-Take.ensures.byte, c.loop-tokens.invariant.byte, size, rest);
    }

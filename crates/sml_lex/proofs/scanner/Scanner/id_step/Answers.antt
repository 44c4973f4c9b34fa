use Rattle.std.proofs.Common.{[], ◌∷◌, ◌++◌, List, ℕ, ap, sym, ◌∙◌, arith, take, drop}
use Rattle.sml_lex.proofs.Ids.{id_start, id_end, id_next, free_within}
use Rattle.sml_lex.proofs.scanner.Scanner.id_step.Goals as goal

pub split_at-requires : goal.split_at-requires
split_at-requires c = omega (arith, c.requires.first, free_within c.args.bytes.now)

pub loop-rest-init : goal.loop-rest-init
loop-rest-init c =
    let path = c.in_ok-push.ensures.ok ∙ ap (λ p. p ++ c.in_ok-new.field-0 ∷ []) c.new-path.ensures ∙ ap (λ (q : List ℕ). [] ++ q ∷ []) (c.in_ok-new.ensures ∙ c.split_at.ensures.front) in
    record {
      read = rw (path, c.split_at.ensures.back, c.requires.first) (id_start c.args.bytes.now c.requires.letter (omega (arith, c.requires.first, c.requires.some)));
      size = omega (arith, c.split_at.ensures.back_len);
    }

pub returns-then-n-eq0-clause-value : goal.returns-then-n-eq0-clause-value
returns-then-n-eq0-clause-value c =
    id_end c.args.bytes.now c.loop-rest.path c.loop-rest.rest.now c.loop-rest.at c.requires.letter c.loop-rest.invariant.read (sym c.next_part-n.ensures.value ∙ c.if-n-eq0.true)

pub returns-then-not-begins-clause-value : goal.returns-then-not-begins-clause-value
returns-then-not-begins-clause-value c =
    let next = id_next c.args.bytes.now c.loop-rest.path c.loop-rest.rest.now c.loop-rest.at c.next_part-n.result c.split_at-in-loop-rest-2.result.0.now c.split_at-in-loop-rest-2.result.1.now _
    c.requires.letter c.loop-rest.invariant.read c.next_part-n.ensures.value (omega arith)
    (c.split_at-in-loop-rest-2.ensures.front ∙ ap (take c.next_part-n.result) c.split_at-in-loop-rest.ensures.back)
    (c.split_at-in-loop-rest-2.ensures.back ∙ ap (drop c.next_part-n.result) c.split_at-in-loop-rest.ensures.back)
    (c.in_ok-push-2.ensures.ok ∙ ap (λ q. c.loop-rest.path ++ q ∷ []) c.in_ok-new-2.ensures) in
    next.symbols (sym c.begins.ensures ∙ c.if-not-begins.true)

pub loop-rest-preserved : goal.loop-rest-preserved
loop-rest-preserved c =
    let next = id_next c.args.bytes.now c.loop-rest.path c.loop-rest.rest.now c.loop-rest.at c.next_part-n.result c.split_at-in-loop-rest-2.result.0.now c.split_at-in-loop-rest-2.result.1.now _
    c.requires.letter c.loop-rest.invariant.read c.next_part-n.ensures.value (omega arith)
    (c.split_at-in-loop-rest-2.ensures.front ∙ ap (take c.next_part-n.result) c.split_at-in-loop-rest.ensures.back)
    (c.split_at-in-loop-rest-2.ensures.back ∙ ap (drop c.next_part-n.result) c.split_at-in-loop-rest.ensures.back)
    (c.in_ok-push-2.ensures.ok ∙ ap (λ q. c.loop-rest.path ++ q ∷ []) c.in_ok-new-2.ensures) in
    record {
      read = next.letters (sym c.begins.ensures ∙ c.if-not-begins.false);
      size = omega (arith, c.split_at-in-loop-rest.ensures.back_len, c.split_at-in-loop-rest-2.ensures.back_len, c.loop-rest.invariant.size);
    }

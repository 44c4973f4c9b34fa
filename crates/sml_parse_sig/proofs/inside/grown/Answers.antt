use Rattle.std.proofs.Common.{sym, ap, ◌∙◌}
use Rattle.std.proofs.lemmas.Result.{err_from_is_err_and}
use Rattle.sml_grammar_sig.specs.Sigs.{Sx}
use Rattle.sml_parse_sig.proofs.Steps.{suffix_less}
use Rattle.sml_parse_sig.proofs.Chains.{chain, chain_turn, chain_end, chain_fails, asked_gives, asked_fails}
use Rattle.sml_parse_sig.proofs.inside.grown.Goals as goal

pub returns-in_err-more : goal.returns-in_err-more
returns-in_err-more c =
    let p = err_from_is_err_and c.from_residual-in_err-more.result c.from_residual-in_err-more.ensures.1 in
    rw (p.1, p.2) (chain_fails c.args.room c.in_err-more.field-0.0 c.types.found c.types.rest.now _ c.types.invariant (sym c.goes_on.ensures ∙ c.types-test.true)
    (asked_fails c.args.room c.in_err-more.field-0.0 c.types.found _ _ c.types.rest.now c.ends_with_where.ensures c.in_ok-needed.ensures c.in_err-more.ensures))

pub types-smaller : goal.types-smaller
types-smaller c =
    suffix_less c.args.room c.types.found c.types.rest.now (c.in_ok-more.more, c.in_ok-more.after.now) (asked_gives c.args.room c.types.found _ _ c.types.rest.now _ c.ends_with_where.ensures c.in_ok-needed.ensures c.in_ok-more.ensures)

pub types-preserved : goal.types-preserved
types-preserved c =
    chain_turn c.args.room c.types.found c.types.rest.now (c.in_ok-more.more, c.in_ok-more.after.now) _ c.types.invariant (sym c.goes_on.ensures ∙ c.types-test.true)
    (asked_gives c.args.room c.types.found _ _ c.types.rest.now _ c.ends_with_where.ensures c.in_ok-needed.ensures c.in_ok-more.ensures)
    ∙ ap (λ (x : Sx). chain c.args.room x c.in_ok-more.after.now) (sym c.in_ok-found.ensures)

pub returns : goal.returns
returns c = chain_end c.args.room c.types.found c.types.rest.now _ c.types.invariant (sym c.goes_on.ensures ∙ c.types-test.false)

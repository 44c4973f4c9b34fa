use Rattle.std.proofs.Common.{sym, ap, ◌∙◌}
use Rattle.std.proofs.lemmas.Result.{err_from_is_err_and}
use Rattle.sml_grammar_mod.specs.ReadStrs.{Growing}
use Rattle.sml_parse_mod.specs.Trees as trees
use Rattle.sml_parse_mod.proofs.Growths.{growth, growth_start, growth_turn, growth_end, growth_fails}
use Rattle.sml_parse_mod.proofs.Steps.{grow_less}
use Rattle.sml_parse_mod.proofs.inside.all_grown.Goals as goal

pub ascriptions-init : goal.ascriptions-init
ascriptions-init c = growth_start c.args.room c.args.found c.args.tokens.now

pub returns-in_err-more : goal.returns-in_err-more
returns-in_err-more c =
    let p = err_from_is_err_and c.from_residual.result c.from_residual.ensures.1 in
    rw (p.1, p.2) (growth_fails c.args.room c.in_err-more.field-0.0 (trees.growing c.ascriptions.growing) c.ascriptions.rest.now _ c.ascriptions.invariant (sym c.begins_grow.ensures ∙ c.ascriptions-test.true) c.in_err-more.ensures)

pub ascriptions-smaller : goal.ascriptions-smaller
ascriptions-smaller c = grow_less c.args.room (trees.growing c.ascriptions.growing) c.ascriptions.rest.now (trees.grow c.in_ok-more.more, c.in_ok-more.after.now) c.in_ok-more.ensures

pub ascriptions-preserved : goal.ascriptions-preserved
ascriptions-preserved c =
    growth_turn c.args.room (trees.growing c.ascriptions.growing) c.ascriptions.rest.now (trees.grow c.in_ok-more.more, c.in_ok-more.after.now) _ c.ascriptions.invariant (sym c.begins_grow.ensures ∙ c.ascriptions-test.true) c.in_ok-more.ensures
    ∙ ap (λ (x : Growing). growth c.args.room x c.in_ok-more.after.now) (sym c.in_ok-growing.ensures)

pub returns : goal.returns
returns c = growth_end c.args.room (trees.growing c.ascriptions.growing) c.ascriptions.rest.now _ c.ascriptions.invariant (sym c.begins_grow.ensures ∙ c.ascriptions-test.false) _ c.in_ok-grown.ensures

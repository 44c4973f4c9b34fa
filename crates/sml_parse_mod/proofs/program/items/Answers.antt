use Rattle.std.proofs.Common.{refl, sym, ap, ◌∙◌, ◌++◌, List}
use Rattle.std.proofs.lemmas.Result.{err_from_is_err_and}
use Rattle.sml_ast.specs.declared.program.Top.{Top}
use Rattle.sml_grammar_exp.specs.Decs.{Changes}
use Rattle.sml_grammar_mod.specs.Programs.{left_by_tops, top_changes}
use Rattle.sml_parse_mod.specs.Trees as trees
use Rattle.sml_parse_mod.proofs.Tops.{items_end, items_fail, items_smaller, items_start, items_turn, tops_more}
use Rattle.sml_parse_mod.proofs.program.items.Goals as goal

pub items-init : goal.items-init
items-init c = rw c.new-found.ensures (items_start c.args.room c.args.scope.now c.args.tokens.now, refl)

pub returns-in_err-top-clause-gives : goal.returns-in_err-top-clause-gives
returns-in_err-top-clause-gives c =
    let p = err_from_is_err_and c.from_residual.result c.from_residual.ensures.1 in
    rw (p.1, p.2) (items_fail c.args.room c.items.found c.items.height (c.items.scope, trees.before c.items.before) c.items.rest.now _ c.items.invariant.0 c.in_err-top.field-0.0 (sym c.goes_further.ensures ∙ c.items-test.true) c.in_err-top.ensures.gives)

pub items-smaller : goal.items-smaller
items-smaller c = items_smaller c.args.room (c.items.scope, trees.before c.items.before) c.items.rest.now (c.in_ok-top.top, trees.before c.in_ok-top.next) c.in_ok-top.after.now c.in_ok-top.ensures.gives

pub items-preserved : goal.items-preserved
items-preserved c =
    let more = c.in_ok-top.ensures.moves in
    let found = c.in_ok-push.ensures.ok in (
      rw (found, c.higher-height.ensures) (items_turn c.args.room c.items.found c.items.height (c.items.scope, trees.before c.items.before) c.items.rest.now _ c.items.invariant.0 (sym c.goes_further.ensures ∙ c.items-test.true)
          c.in_ok-top.top (trees.before c.in_ok-top.next) c.in_ok-top.after.now _ c.in_ok-top.ensures.gives more),
      more ∙ (ap (λ (cs : Changes). cs ++ top_changes c.in_ok-top.top.0) c.items.invariant.1
          ∙ (sym (tops_more c.args.scope.now c.items.found c.in_ok-top.top.0) ∙ ap (λ (ts : List Top). left_by_tops c.args.scope.now ts) (sym found))),
    )

pub returns-clause-gives : goal.returns-clause-gives
returns-clause-gives c = items_end c.args.room c.items.found c.items.height (c.items.scope, trees.before c.items.before) c.items.rest.now _ c.items.invariant.0 (sym c.goes_further.ensures ∙ c.items-test.false)

pub returns-clause-moves : goal.returns-clause-moves
returns-clause-moves c = c.items.invariant.1

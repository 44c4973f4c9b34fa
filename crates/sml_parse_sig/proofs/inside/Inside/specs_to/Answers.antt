use Rattle.std.proofs.Common.{sym, ap, ◌∙◌}
use Rattle.std.proofs.lemmas.Result.{err_from_is_err_and}
use Rattle.sml_parse_sig.proofs.Items.{Kept, row, row_start, row_turn, row_end, row_fails, row_smaller}
use Rattle.sml_parse_sig.proofs.inside.Inside.specs_to.Goals as goal

pub items-init : goal.items-init
items-init g c = rw c.new.ensures (row_start c.args.word c.args.room c.args.tokens.now)

pub returns-in_err-item : goal.returns-in_err-item
returns-in_err-item g c =
    let p = err_from_is_err_and c.from_residual.result c.from_residual.ensures.1 in
    rw (p.1, p.2) (row_fails c.args.word c.args.room c.in_err-item.field-0.0 c.items.kept c.items.rest.now _ c.items.invariant (sym c.begins_item.ensures ∙ c.items-test.true) c.in_err-item.ensures)

pub items-smaller : goal.items-smaller
items-smaller g c = row_smaller c.args.word c.args.room c.items.kept c.items.rest.now (c.in_ok-item.item, c.in_ok-item.after.now) c.in_ok-item.ensures

pub items-preserved : goal.items-preserved
items-preserved g c =
    row_turn c.args.word c.args.room c.items.kept c.items.rest.now (c.in_ok-item.item, c.in_ok-item.after.now) _ c.items.invariant (sym c.begins_item.ensures ∙ c.items-test.true) c.in_ok-item.ensures
    ∙ ap (λ (y : Kept). row c.args.word c.args.room y c.in_ok-item.after.now) (sym c.in_ok-kept.ensures)

pub returns : goal.returns
returns g c = rw (row_end c.args.word c.args.room c.items.kept c.items.rest.now _ c.items.invariant (sym c.begins_item.ensures ∙ c.items-test.false)) c.closed.ensures

use Rattle.std.proofs.Common.{false, sym, ◌∙◌}
use Rattle.std.proofs.lemmas.Result.{err_from_is_err_and}
use Rattle.readers.specs.Forms.{height_of}
use Rattle.sml_fix.specs.Fixities.{settings}
use Rattle.sml_grammar.specs.ReadPats.{begins_at, at_read}
use Rattle.sml_parse_bind.specs.Rows as rows
use Rattle.sml_parse_bind.proofs.Rows.{row_turn, row_end, row_item_fails}
use Rattle.sml_parse_bind.proofs.Steps.{at_less}
use Rattle.sml_parse_bind.proofs.pats.some_pats.Goals as goal

pub returns-in_err-other : goal.returns-in_err-other
returns-in_err-other c =
    let p = err_from_is_err_and c.from_residual-in_err-other.result c.from_residual-in_err-other.ensures.1 in
    rw (p.1, p.2) (row_item_fails rows.at_pat_tree height_of (begins_at (settings c.args.fix.now)) (at_read c.args.room false (settings c.args.fix.now)) (at_less (settings c.args.fix.now) c.args.room) c.in_err-other.field-0.0 c.items.found c.items.height c.items.rest.now _ c.items.invariant (sym c.begins_at.ensures ∙ c.items-test.true) c.in_err-other.ensures)

pub items-smaller : goal.items-smaller
items-smaller c = at_less (settings c.args.fix.now) c.args.room c.items.rest.now (c.in_ok-other.other, c.in_ok-other.after.now) c.in_ok-other.ensures

pub items-preserved : goal.items-preserved
items-preserved c =
    rw (c.in_ok-push-2.ensures.ok, c.higher-height.ensures) (row_turn rows.at_pat_tree height_of (begins_at (settings c.args.fix.now)) (at_read c.args.room false (settings c.args.fix.now)) (at_less (settings c.args.fix.now) c.args.room) c.items.found c.items.height c.items.rest.now (c.in_ok-other.other, c.in_ok-other.after.now) _ c.items.invariant
    (sym c.begins_at.ensures ∙ c.items-test.true) c.in_ok-other.ensures)

pub returns : goal.returns
returns c = row_end rows.at_pat_tree height_of (begins_at (settings c.args.fix.now)) (at_read c.args.room false (settings c.args.fix.now)) (at_less (settings c.args.fix.now) c.args.room) c.items.found c.items.height c.items.rest.now _ c.items.invariant (sym c.begins_at.ensures ∙ c.items-test.false)

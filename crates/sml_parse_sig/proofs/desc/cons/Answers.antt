use Rattle.std.proofs.Common.{sym, ◌∙◌}
use Rattle.std.proofs.lemmas.Result.{err_from_is_err_and}
use Rattle.sml_scan.proofs.Rows.{seps_turn, seps_smaller, seps_end, seps_item_fails}
use Rattle.readers.specs.Forms.{height_of}
use Rattle.sml_grammar.specs.ReadTypes.{ty_read}
use Rattle.sml_grammar.specs.Tokens.{is}
use Rattle.sml_parse_sig.specs.Rows as rows
use Rattle.sml_grammar_sig.specs.ReadDescs.{con_read}
use Rattle.sml_parse_sig.proofs.Steps.{and_con_less}
use Rattle.sml_parse_sig.proofs.desc.cons.Goals as goal

pub returns-in_err-other : goal.returns-in_err-other
returns-in_err-other c =
    let p = err_from_is_err_and c.from_residual-in_err-other.result c.from_residual-in_err-other.ensures.1 in
    rw (p.1, p.2) (seps_item_fails rows.con_tree height_of (is c.args.separator) (con_read (ty_read c.args.room) c.args.room) (and_con_less c.args.separator c.args.room) c.in_err-other.field-0.0 c.items.found c.items.height c.items.rest.now c.in_ok-after.after.now _ c.items.invariant
    (sym c.is_next.ensures ∙ c.items-test.true) c.in_ok-after.ensures c.in_err-other.ensures)

pub items-smaller : goal.items-smaller
items-smaller c = seps_smaller rows.con_tree height_of (is c.args.separator) (con_read (ty_read c.args.room) c.args.room) (and_con_less c.args.separator c.args.room) c.items.rest.now c.in_ok-after.after.now (c.in_ok-other.other, c.in_ok-other.after.now) c.in_ok-after.ensures c.in_ok-other.ensures

pub items-preserved : goal.items-preserved
items-preserved c =
    rw (c.in_ok-push-2.ensures.ok, c.higher-height.ensures) (seps_turn rows.con_tree height_of (is c.args.separator) (con_read (ty_read c.args.room) c.args.room) (and_con_less c.args.separator c.args.room) c.items.found c.items.height c.items.rest.now c.in_ok-after.after.now (c.in_ok-other.other, c.in_ok-other.after.now) _ c.items.invariant
    (sym c.is_next.ensures ∙ c.items-test.true) c.in_ok-after.ensures c.in_ok-other.ensures)

pub returns : goal.returns
returns c = seps_end rows.con_tree height_of (is c.args.separator) (con_read (ty_read c.args.room) c.args.room) (and_con_less c.args.separator c.args.room) c.items.found c.items.height c.items.rest.now _ c.items.invariant (sym c.is_next.ensures ∙ c.items-test.false)

use Rattle.std.proofs.Common.{sym, ◌∙◌}
use Rattle.std.proofs.lemmas.Result.{err_from_is_err_and}
use Rattle.readers.specs.Forms.{height_of}
use Rattle.sml_fix.specs.Fixities.{settings}
use Rattle.sml_grammar.specs.Words.{COMMA}
use Rattle.sml_grammar.specs.Tokens.{is}
use Rattle.sml_grammar.specs.Pats.{goes_on}
use Rattle.sml_parse_pat.specs.Levels as levels
use Rattle.sml_parse_pat.specs.Rows.{field_tree}
use Rattle.sml_parse_pat.proofs.Steps.{comma_field_less}
use Rattle.sml_parse_pat.proofs.Ready.{ready_first, ready_first_fails, ready_turn, ready_barred, ready_item_fails, ready_smaller, ready_end}
use Rattle.sml_parse_pat.proofs.inside.Inside.fields.Goals as goal

pub returns-in_err-first : goal.returns-in_err-first
returns-in_err-first g c =
    let fix = settings c.args.self.now.fix.now in
    let p = err_from_is_err_and c.from_residual.result c.from_residual.ensures.1 in
    rw (p.1, p.2) (ready_first_fails field_tree height_of (is COMMA) goes_on (levels.field fix c.args.room) c.in_err-first.field-0.0 c.args.tokens.now c.in_err-first.ensures)

pub items-init : goal.items-init
items-init g c =
    let fix = settings c.args.self.now.fix.now in
    rw (c.in_ok-push.ensures.ok, c.new-found.ensures) (ready_first field_tree height_of (is COMMA) goes_on (levels.field fix c.args.room) c.args.tokens.now (c.in_ok-first.first, c.in_ok-first.rest.now) c.goes_on-more.result c.in_ok-first.ensures c.goes_on-more.ensures)

pub returns-then-not-more : goal.returns-then-not-more
returns-then-not-more g c =
    let fix = settings c.args.self.now.fix.now in
    ready_barred field_tree height_of (is COMMA) goes_on (levels.field fix c.args.room) (comma_field_less fix c.args.room) c.items.found c.items.height c.items.more c.items.rest.now _ c.items.invariant (sym c.is_next.ensures ∙ c.items-test.true) c.if-not-more.true

pub returns-in_err-other : goal.returns-in_err-other
returns-in_err-other g c =
    let fix = settings c.args.self.now.fix.now in
    let p = err_from_is_err_and c.from_residual-in_err-other.result c.from_residual-in_err-other.ensures.1 in
    rw (p.1, p.2) (ready_item_fails field_tree height_of (is COMMA) goes_on (levels.field fix c.args.room) (comma_field_less fix c.args.room) c.items.found c.items.height c.items.more c.items.rest.now _ c.items.invariant (sym c.is_next.ensures ∙ c.items-test.true)
    c.in_err-other.field-0.0 c.in_ok-after.after.now c.if-not-more.false c.in_ok-after.ensures c.in_err-other.ensures)

pub items-smaller : goal.items-smaller
items-smaller g c =
    let fix = settings c.args.self.now.fix.now in
    ready_smaller field_tree height_of (is COMMA) goes_on (levels.field fix c.args.room) (comma_field_less fix c.args.room) c.items.rest.now c.in_ok-after.after.now (c.in_ok-other.other, c.in_ok-other.after.now) c.in_ok-after.ensures c.in_ok-other.ensures

pub items-preserved : goal.items-preserved
items-preserved g c =
    let fix = settings c.args.self.now.fix.now in
    rw (c.in_ok-push-2.ensures.ok, c.higher-height.ensures) (ready_turn field_tree height_of (is COMMA) goes_on (levels.field fix c.args.room) (comma_field_less fix c.args.room) c.items.found c.items.height c.items.more c.items.rest.now _ c.items.invariant (sym c.is_next.ensures ∙ c.items-test.true)
    c.in_ok-after.after.now (c.in_ok-other.other, c.in_ok-other.after.now) c.goes_on-more-in-items.result c.if-not-more.false c.in_ok-after.ensures c.in_ok-other.ensures c.goes_on-more-in-items.ensures)

pub returns : goal.returns
returns g c =
    let fix = settings c.args.self.now.fix.now in
    ready_end field_tree height_of (is COMMA) goes_on (levels.field fix c.args.room) (comma_field_less fix c.args.room) c.items.found c.items.height c.items.more c.items.rest.now _ c.items.invariant (sym c.is_next.ensures ∙ c.items-test.false)

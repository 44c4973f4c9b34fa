use Rattle.std.proofs.Common.{sym, ◌∙◌}
use Rattle.std.proofs.lemmas.Result.{err_from_is_err_and}
use Rattle.readers.specs.Forms.{height_of}
use Rattle.sml_fix.specs.Fixities.{settings}
use Rattle.sml_grammar.specs.Words.{COMMA}
use Rattle.sml_grammar.specs.Tokens.{is}
use Rattle.sml_scan.proofs.Rows.{seps_turn, seps_smaller, seps_end, seps_item_fails}
use Rattle.sml_parse_pat.specs.Levels as levels
use Rattle.sml_parse_pat.specs.Rows.{pat_tree}
use Rattle.sml_parse_pat.proofs.Steps.{comma_pat_less}
use Rattle.sml_parse_pat.proofs.inside.Inside.pats.Goals as goal

pub returns-in_err-other : goal.returns-in_err-other
returns-in_err-other g c =
    let fix = settings c.args.self.now.fix.now in
    let p = err_from_is_err_and c.from_residual-in_err-other.result c.from_residual-in_err-other.ensures.1 in
    rw (p.1, p.2) (seps_item_fails pat_tree height_of (is COMMA) (levels.pat fix c.args.room) (comma_pat_less fix c.args.room) c.in_err-other.field-0.0 c.items.found c.items.height c.items.rest.now c.in_ok-after.after.now _ c.items.invariant (sym c.is_next.ensures ∙ c.items-test.true) c.in_ok-after.ensures c.in_err-other.ensures)

pub items-smaller : goal.items-smaller
items-smaller g c =
    let fix = settings c.args.self.now.fix.now in
    seps_smaller pat_tree height_of (is COMMA) (levels.pat fix c.args.room) (comma_pat_less fix c.args.room) c.items.rest.now c.in_ok-after.after.now (c.in_ok-other.other, c.in_ok-other.after.now) c.in_ok-after.ensures c.in_ok-other.ensures

pub items-preserved : goal.items-preserved
items-preserved g c =
    let fix = settings c.args.self.now.fix.now in
    rw (c.in_ok-push-2.ensures.ok, c.into_inner-in-items.ensures, c.higher-height.ensures) (seps_turn pat_tree height_of (is COMMA) (levels.pat fix c.args.room) (comma_pat_less fix c.args.room) c.items.found c.items.height c.items.rest.now c.in_ok-after.after.now (c.in_ok-other.other, c.in_ok-other.after.now) _ c.items.invariant (sym c.is_next.ensures ∙ c.items-test.true) c.in_ok-after.ensures c.in_ok-other.ensures)

pub returns : goal.returns
returns g c =
    let fix = settings c.args.self.now.fix.now in
    seps_end pat_tree height_of (is COMMA) (levels.pat fix c.args.room) (comma_pat_less fix c.args.room) c.items.found c.items.height c.items.rest.now _ c.items.invariant (sym c.is_next.ensures ∙ c.items-test.false)

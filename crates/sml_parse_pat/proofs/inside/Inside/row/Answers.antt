use Rattle.std.proofs.Common.{sym, ap, ◌∙◌}
use Rattle.std.proofs.lemmas.Result.{err_from_is_err_and}
use Rattle.sml_fix.specs.Fixities.{settings}
use Rattle.sml_grammar.specs.Pats.{Pt}
use Rattle.sml_parse_pat.proofs.RowSteps.{row_rest, row_first, first_fails, row_turn, row_fails, row_less, row_end}
use Rattle.sml_parse_pat.proofs.inside.Inside.row.Goals as goal

pub returns-in_err-found : goal.returns-in_err-found
returns-in_err-found g c =
    let p = err_from_is_err_and c.from_residual.result c.from_residual.ensures.1 in
    rw (p.1, p.2) (first_fails (settings c.args.self.now.fix.now) c.args.room c.args.floor c.in_err-found.field-0.0 c.args.tokens.now c.in_err-found.ensures)

pub operators-init : goal.operators-init
operators-init g c = row_first (settings c.args.self.now.fix.now) c.args.room c.args.floor c.args.tokens.now c.in_ok-found.rest.now c.in_ok-found.found c.in_ok-found.ensures

pub returns-in_err-more : goal.returns-in_err-more
returns-in_err-more g c =
    let p = err_from_is_err_and c.from_residual-in_err-more.result c.from_residual-in_err-more.ensures.1 in
    rw (p.1, p.2) (row_fails (settings c.args.self.now.fix.now) c.args.room c.args.floor _ c.operators.found c.operators.rest.now c.operators.invariant c.in_err-more.field-0.0 (sym c.is_taken.ensures ∙ c.operators-test.true) c.in_err-more.ensures)

pub operators-smaller : goal.operators-smaller
operators-smaller g c = row_less (settings c.args.self.now.fix.now) c.args.room c.args.floor c.operators.found c.operators.rest.now (c.in_ok-more.more, c.in_ok-more.after.now) c.in_ok-more.ensures

pub operators-preserved : goal.operators-preserved
operators-preserved g c =
    let fix = settings c.args.self.now.fix.now in
    row_turn fix c.args.room c.args.floor _ c.operators.found c.operators.rest.now c.operators.invariant (c.in_ok-more.more, c.in_ok-more.after.now) (sym c.is_taken.ensures ∙ c.operators-test.true) c.in_ok-more.ensures
    ∙ ap (λ (x : Pt). row_rest fix c.args.room c.args.floor x c.in_ok-more.after.now) (sym c.in_ok-found-2.ensures)

pub returns : goal.returns
returns g c = row_end (settings c.args.self.now.fix.now) c.args.room c.args.floor _ c.operators.found c.operators.rest.now c.operators.invariant (sym c.is_taken.ensures ∙ c.operators-test.false)

use Rattle.std.proofs.Common.{sym, ap, ◌∙◌}
use Rattle.std.proofs.lemmas.Result.{err_from_is_err_and}
use Rattle.sml_parse_sig.specs.Rows as rows
use Rattle.sml_parse_sig.proofs.Turns.{Kept, row, row_start, row_turn, row_end, row_fails, row_smaller}
use Rattle.sml_parse_sig.proofs.inside.Inside.named_sigs.Goals as goal

pub turns-init : goal.turns-init
turns-init g c = rw c.new.ensures (row_start c.args.word c.args.room c.args.tokens.now (c.in_ok-first.first, c.in_ok-first.rest.now) c.in_ok-first.ensures)

pub returns-in_err-turn : goal.returns-in_err-turn
returns-in_err-turn g c =
    let p = err_from_is_err_and c.from_residual-in_err-turn.result c.from_residual-in_err-turn.ensures.1 in
    rw (p.1, p.2) (row_fails c.args.word c.args.room c.in_err-turn.field-0.0 c.turns.kept c.turns.rest.now _ c.turns.invariant (sym c.goes_on.ensures ∙ c.turns-test.true) c.in_err-turn.ensures)

pub turns-smaller : goal.turns-smaller
turns-smaller g c = row_smaller c.args.word c.args.room c.turns.kept c.turns.rest.now (rows.turn c.in_ok-turn.turn, c.in_ok-turn.after.now) c.in_ok-turn.ensures

pub turns-preserved : goal.turns-preserved
turns-preserved g c =
    row_turn c.args.word c.args.room c.turns.kept c.turns.rest.now (rows.turn c.in_ok-turn.turn, c.in_ok-turn.after.now) _ c.turns.invariant (sym c.goes_on.ensures ∙ c.turns-test.true) c.in_ok-turn.ensures
    ∙ ap (λ (y : Kept). row c.args.word c.args.room y c.in_ok-turn.after.now) (sym c.in_ok-kept.ensures)

pub returns : goal.returns
returns g c = rw c.in_ok-push.ensures.ok (row_end c.args.word c.args.room c.turns.kept c.turns.rest.now _ c.turns.invariant (sym c.goes_on.ensures ∙ c.turns-test.false))

use Rattle.std.proofs.Common.{sym, ◌∙◌}
use Rattle.std.proofs.lemmas.Result.{err_from_is_err_and}
use Rattle.sml_parse_mod.proofs.TopItems.{sigs_bar, sigs_fail, sigs_give}
use Rattle.sml_parse_mod.proofs.top.sigs.Goals as goal

pub returns-in_err-found : goal.returns-in_err-found
returns-in_err-found c =
    let p = err_from_is_err_and c.from_residual.result c.from_residual.ensures.1 in
    rw (p.1, p.2) (sigs_fail c.args.room c.args.place c.args.tokens.now c.in_err-found.field-0.0 c.in_err-found.ensures)

pub returns-then-goes_on : goal.returns-then-goes_on
returns-then-goes_on c = sigs_bar c.args.room c.args.place c.args.tokens.now (c.in_ok-found.found, c.in_ok-found.height) c.in_ok-found.rest.now c.in_ok-found.ensures (sym c.goes_on.ensures ∙ c.if-goes_on.true)

pub returns : goal.returns
returns c = rw c.in_ok-with_height.ensures (sigs_give c.args.room c.args.place c.args.tokens.now (c.in_ok-found.found, c.in_ok-found.height) c.in_ok-found.rest.now c.in_ok-found.ensures (sym c.goes_on.ensures ∙ c.if-goes_on.false))

use Rattle.std.proofs.Common.{sym, ◌∙◌}
use Rattle.std.proofs.lemmas.Result.{err_from_is_err_and}
use Rattle.sml_parse_mod.proofs.Tops.{opening_fails, opening_none, opening_some}
use Rattle.sml_parse_mod.proofs.program.opening.Goals as goal

pub returns-then-not-is_next : goal.returns-then-not-is_next
returns-then-not-is_next c = opening_none c.args.tokens.now (sym c.is_next.ensures ∙ c.if-not-is_next.true)

pub returns-in_err-rest : goal.returns-in_err-rest
returns-in_err-rest c =
    let p = err_from_is_err_and c.from_residual-in_err-rest.result c.from_residual-in_err-rest.ensures.1 in
    rw (p.1, p.2) (opening_fails c.in_err-rest.field-0.0 c.args.tokens.now c.in_ok-place.place c.in_ok-place.rest.now (sym c.is_next.ensures ∙ c.if-not-is_next.false) c.in_ok-place.ensures c.in_err-rest.ensures)

pub returns : goal.returns
returns c = opening_some c.args.tokens.now c.in_ok-place.place c.in_ok-place.rest.now c.in_ok-rest.rest.now (sym c.is_next.ensures ∙ c.if-not-is_next.false) c.in_ok-place.ensures c.in_ok-rest.ensures

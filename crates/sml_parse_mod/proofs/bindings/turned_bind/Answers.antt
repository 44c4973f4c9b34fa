use Rattle.std.proofs.Common.{sym}
use Rattle.std.proofs.lemmas.Result.{err_from_is_err_and}
use Rattle.sml_parse_mod.proofs.bindings.turned_bind.Goals as goal

pub returns-in_err-goes_on : goal.returns-in_err-goes_on
returns-in_err-goes_on c =
    let p = err_from_is_err_and c.from_residual.result c.from_residual.ensures.1 in
    rw (p.1, p.2, sym c.into_inner.ensures) c.in_err-goes_on.ensures

pub returns : goal.returns
returns c = rw (c.in_ok-new.ensures, sym c.into_inner.ensures) c.in_ok-goes_on.ensures

use Rattle.std.proofs.lemmas.Result.{err_from_is_err_and}
use Rattle.sml_fix.specs.Fixities.{settings}
use Rattle.sml_parse_pat.proofs.Parts.{parts_give, parts_fail}
use Rattle.sml_parse_pat.proofs.inside.Inside.parts.Goals as goal

pub returns-in_err-others : goal.returns-in_err-others
returns-in_err-others g c =
    let p = err_from_is_err_and c.from_residual-in_err-others.result c.from_residual-in_err-others.ensures.1 in
    rw (p.1, p.2) (parts_fail (settings c.args.self.now.fix.now) c.args.room c.args.place c.args.tokens.now c.in_ok-first.rest.now c.in_ok-first.first c.in_ok-first.ensures c.in_err-others.field-0.0 c.in_err-others.ensures)

pub returns : goal.returns
returns g c =
    rw c.in_ok-atom.ensures (parts_give (settings c.args.self.now.fix.now) c.args.room c.args.place c.args.tokens.now c.in_ok-first.rest.now c.in_ok-first.first c.in_ok-first.ensures
    (c.in_ok-others.others, c.in_ok-others.rest.now) c.in_ok-others.ensures)

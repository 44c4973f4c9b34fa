use Rattle.std.proofs.Common.{sym, ap, subst, ◌∙◌}
use Rattle.std.proofs.lemmas.Result.{err_from_is_err_and}
use Rattle.readers.specs.Given.{Fails}
use Rattle.readers.specs.Reader.{mapped}
use Rattle.sml_grammar_exp.specs.Decs.{Changes}
use Rattle.sml_grammar_exp.specs.ReadExps.{behind_read}
use Rattle.sml_parse_exp.specs.Levels as levels
use Rattle.sml_parse_exp.specs.Trees as trees
use Rattle.sml_parse_exp.proofs.Hands.{parts_give, parts_fail}
use Rattle.sml_parse_exp.proofs.inside.Inside.parts.Goals as goal

pub returns-in_err-others-clause-gives : goal.returns-in_err-others-clause-gives
returns-in_err-others-clause-gives g c =
    let p = err_from_is_err_and c.from_residual-in_err-others.result c.from_residual-in_err-others.ensures.1 in
    rw (p.1, p.2) (parts_fail c.args.scope.now c.args.room c.args.place c.args.tokens.now c.in_ok-first.rest.now (trees.seen c.in_ok-first.first) c.in_ok-first.ensures.gives c.in_err-others.field-0.0
    (subst (λ (cs : Changes). Fails c.in_err-others.field-0.0 (mapped trees.behind_of (behind_read (levels.exp cs c.args.room)) c.in_ok-first.rest.now)) c.in_ok-first.ensures.keeps c.in_err-others.ensures.gives))

pub returns-clause-gives : goal.returns-clause-gives
returns-clause-gives g c =
    rw c.in_ok-atom.ensures (parts_give c.args.scope.now c.args.room c.args.place c.args.tokens.now c.in_ok-first.rest.now (trees.seen c.in_ok-first.first) c.in_ok-first.ensures.gives
    (c.in_ok-others.others, c.in_ok-others.rest.now) (ap (λ (cs : Changes). mapped trees.behind_of (behind_read (levels.exp cs c.args.room)) c.in_ok-first.rest.now) (sym c.in_ok-first.ensures.keeps) ∙ c.in_ok-others.ensures.gives))

use Rattle.std.proofs.lemmas.Result.{err_from_is_err_and}
use Rattle.sml_parse_mod.specs.Levels as levels
use Rattle.sml_parse_mod.specs.Trees as trees
use Rattle.sml_parse_mod.proofs.Turns.{step_fails, step_more, step_next}
use Rattle.sml_parse_mod.proofs.functors.step.Goals as goal

pub returns-in_err-goes_on-clause-gives : goal.returns-in_err-goes_on-clause-gives
returns-in_err-goes_on-clause-gives c =
    let p = err_from_is_err_and c.from_residual.result c.from_residual.ensures.1 in
    rw (p.1, p.2) (step_fails (levels.functor c.args.scope.now c.args.room) c.args.room trees.funbind_made (trees.bind c.args.last) c.args.tokens.now c.in_err-goes_on.field-0.0 c.in_err-goes_on.ensures)

pub returns-then-goes_on-clause-gives : goal.returns-then-goes_on-clause-gives
returns-then-goes_on-clause-gives c =
    step_more (levels.functor c.args.scope.now c.args.room) c.args.room trees.funbind_made (trees.bind c.args.last) c.args.tokens.now c.in_ok-goes_on.goes_on (trees.bind c.in_ok-goes_on.next) c.in_ok-goes_on.rest.now c.in_ok-goes_on.ensures c.if-goes_on.true

pub returns-clause-gives : goal.returns-clause-gives
returns-clause-gives c =
    rw (step_next (levels.functor c.args.scope.now c.args.room) c.args.room trees.funbind_made (trees.bind c.args.last) c.args.tokens.now c.in_ok-goes_on.goes_on (trees.bind c.in_ok-goes_on.next) c.in_ok-goes_on.rest.now c.in_ok-goes_on.ensures c.if-goes_on.false) c.follow.ensures.gives

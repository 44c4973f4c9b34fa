use Rattle.std.proofs.lemmas.Result.{err_from_is_err_and}
use Rattle.sml_grammar_mod.specs.Strs.{strbind_of}
use Rattle.sml_parse_mod.specs.Levels as levels
use Rattle.sml_parse_mod.specs.Trees as trees
use Rattle.sml_parse_mod.proofs.Loops.{binds_give}
use Rattle.sml_parse_mod.proofs.Steps.{binding_less}
use Rattle.sml_parse_mod.proofs.Turns.{row_first_fails}
use Rattle.sml_parse_mod.proofs.inside.Inside.binds.Goals as goal

pub returns-in_err-first-clause-gives : goal.returns-in_err-first-clause-gives
returns-in_err-first-clause-gives g c =
    let p = err_from_is_err_and c.from_residual.result c.from_residual.ensures.1 in
    rw (p.1, p.2) (row_first_fails (levels.bind c.args.scope.now c.args.room) c.args.room strbind_of (binding_less c.args.scope.now c.args.room) c.in_err-first.field-0.0 c.args.tokens.now c.in_err-first.ensures.gives)

pub returns-clause-gives : goal.returns-clause-gives
returns-clause-gives g c = binds_give c.args.scope.now _ c.in_ok-first.ensures.keeps c.args.room c.args.tokens.now c.in_ok-first.rest.now (trees.bind c.in_ok-first.first) c.in_ok-first.ensures.gives _ c.binds_behind.ensures.gives

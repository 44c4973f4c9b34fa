use Rattle.std.proofs.Common.{arith}
use Rattle.sml_parse_exp.proofs.Steps.{clause_is}
use Rattle.sml_parse_exp.proofs.inside.Inside.clause.Goals as goal

pub returns-clause-gives : goal.returns-clause-gives
returns-clause-gives g c = rw (clause_is c.args.scope.now c.args.room c.args.tokens.now (let some = c.if-room-eq0.false in omega arith)) c.clause_level.ensures.gives

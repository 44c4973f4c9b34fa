use Rattle.std.proofs.Common.{arith}
use Rattle.sml_parse_mod.proofs.Steps.{run_is}
use Rattle.sml_parse_mod.proofs.top.run.Goals as goal

pub returns-clause-gives : goal.returns-clause-gives
returns-clause-gives c = rw (run_is c.args.scope.now c.args.room c.args.tokens.now (let some = c.if-room-eq0.false in omega arith)) c.run_level.ensures.gives

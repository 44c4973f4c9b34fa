use Rattle.std.proofs.Common.{arith}
use Rattle.sml_parse_mod.proofs.Steps.{program_is}
use Rattle.sml_parse_mod.proofs.program.program.Goals as goal

pub returns-clause-gives : goal.returns-clause-gives
returns-clause-gives c = rw (program_is c.args.scope.now c.args.room c.args.tokens.now (let some = c.requires in omega arith)) c.level.ensures.gives

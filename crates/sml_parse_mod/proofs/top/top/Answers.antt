use Rattle.std.proofs.Common.{arith}
use Rattle.sml_parse_mod.proofs.Steps.{top_is}
use Rattle.sml_parse_mod.proofs.top.top.Goals as goal

pub returns-clause-gives : goal.returns-clause-gives
returns-clause-gives c = rw (top_is c.args.scope.now c.args.room c.args.tokens.now (let some = c.if-room-eq0.false in omega arith)) c.top_level.ensures.gives

use Rattle.std.proofs.Common.{arith}
use Rattle.sml_parse_mod.proofs.Steps.{base_is, strdec_is}
use Rattle.sml_parse_mod.proofs.inside.+parse.Goals as goal

pub base-returns-clause-gives : goal.base-returns-clause-gives
base-returns-clause-gives t c = rw (base_is c.args.scope.now c.args.room c.args.tokens.now (let some = c.if-room-eq0.false in omega arith)) c.base_level.ensures.gives

pub strdec-returns-clause-gives : goal.strdec-returns-clause-gives
strdec-returns-clause-gives t c = rw (strdec_is c.args.scope.now c.args.room c.args.tokens.now (let some = c.if-room-eq0.false in omega arith)) c.declaration.ensures.gives

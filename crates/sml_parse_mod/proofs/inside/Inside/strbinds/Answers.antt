use Rattle.std.proofs.Common.{arith}
use Rattle.sml_parse_mod.proofs.Steps.{strbinds_is}
use Rattle.sml_parse_mod.proofs.inside.Inside.strbinds.Goals as goal

pub returns-clause-gives : goal.returns-clause-gives
returns-clause-gives g c = rw (strbinds_is c.args.scope.now c.args.room c.args.tokens.now (let some = c.if-room-eq0.false in omega arith)) c.binds_level.ensures.gives

use Rattle.std.proofs.Common.{arith}
use Rattle.sml_parse_mod.proofs.Rooms.{ascribe_is}
use Rattle.sml_parse_mod.proofs.ascription.some_ascription.Goals as goal

pub returns : goal.returns
returns c = rw (ascribe_is c.args.room c.args.tokens.now (let some = c.if-room-eq0.false in omega arith)) c.level.ensures

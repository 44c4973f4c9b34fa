use Rattle.std.proofs.Common.{arith}
use Rattle.sml_parse_sig.proofs.Steps.{head_read_is}
use Rattle.sml_parse_sig.proofs.inside.Inside.head.Goals as goal

pub returns : goal.returns
returns g c = rw (head_read_is c.args.room c.args.tokens.now (let some = c.if-room-eq0.false in omega arith)) c.head_level.ensures

use Rattle.std.proofs.Common.{arith}
use Rattle.sml_parse_sig.proofs.Steps.{body_read_is}
use Rattle.sml_parse_sig.proofs.inside.Inside.body.Goals as goal

pub returns : goal.returns
returns g c = rw (body_read_is c.args.room c.args.tokens.now (let some = c.if-room-eq0.false in omega arith)) c.body_level.ensures

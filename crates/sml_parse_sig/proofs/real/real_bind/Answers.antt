use Rattle.std.proofs.Common.{arith}
use Rattle.sml_parse_sig.proofs.Steps.{real_bind_is}
use Rattle.sml_parse_sig.proofs.real.real_bind.Goals as goal

pub returns : goal.returns
returns c = rw (real_bind_is c.args.room c.args.tokens.now (let some = c.if-room-eq0.false in omega arith)) c.level.ensures

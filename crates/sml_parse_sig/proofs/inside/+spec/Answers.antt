use Rattle.std.proofs.Common.{arith}
use Rattle.sml_parse_sig.proofs.Steps.{spec_is}
use Rattle.sml_parse_sig.proofs.inside.+spec.Goals as goal

pub returns : goal.returns
returns t c = rw (spec_is c.args.room c.args.tokens.now (let some = c.if-room-eq0.false in omega arith)) c.level.ensures

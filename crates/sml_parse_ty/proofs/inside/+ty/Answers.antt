use Rattle.std.proofs.Common.{arith}
use Rattle.sml_parse_ty.proofs.Steps.{ty_is}
use Rattle.sml_parse_ty.proofs.inside.+ty.Goals as goal

pub returns : goal.returns
returns t c = rw (ty_is c.args.room c.args.tokens.now (let some = c.if-room-eq0.false in omega arith)) c.whole.ensures

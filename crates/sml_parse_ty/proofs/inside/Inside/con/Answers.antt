use Rattle.std.proofs.Common.{arith}
use Rattle.sml_parse_ty.proofs.Steps.{con_is}
use Rattle.sml_parse_ty.proofs.inside.Inside.con.Goals as goal

pub returns : goal.returns
returns g c = rw (con_is c.args.room c.args.tokens.now (let some = c.if-room-eq0.false in omega arith)) c.con_level.ensures

use Rattle.std.proofs.Common.{arith}
use Rattle.sml_fix.specs.Fixities.{settings}
use Rattle.sml_parse_bind.proofs.Hands.{exbind_is}
use Rattle.sml_parse_bind.proofs.exbind.exbind.Goals as goal

pub returns : goal.returns
returns c = rw (exbind_is (settings c.args.fix.now) c.args.room c.args.tokens.now (let some = c.if-room-eq0.false in omega arith)) c.level.ensures

use Rattle.std.proofs.Common.{arith}
use Rattle.sml_parse_sig.proofs.Steps.{cons_is}
use Rattle.sml_parse_sig.proofs.desc.constructors.Goals as goal

pub returns : goal.returns
returns c = rw (cons_is c.args.room c.args.tokens.now (let some = c.if-room-eq0.false in omega arith)) c.constructors_level.ensures

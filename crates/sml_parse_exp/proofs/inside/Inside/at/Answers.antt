use Rattle.std.proofs.Common.{arith}
use Rattle.sml_parse_exp.proofs.Steps.{at_is}
use Rattle.sml_parse_exp.proofs.inside.Inside.at.Goals as goal

pub returns-clause-gives : goal.returns-clause-gives
returns-clause-gives g c = rw (at_is c.args.scope.now c.args.room c.args.tokens.now (let some = c.if-room-eq0.false in omega arith)) c.atom.ensures.gives

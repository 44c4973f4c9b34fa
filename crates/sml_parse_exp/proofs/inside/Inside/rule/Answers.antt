use Rattle.std.proofs.Common.{arith}
use Rattle.sml_parse_exp.proofs.Steps.{rule_is}
use Rattle.sml_parse_exp.proofs.inside.Inside.rule.Goals as goal

pub returns-clause-gives : goal.returns-clause-gives
returns-clause-gives g c = rw (rule_is c.args.scope.now c.args.room c.args.tokens.now (let some = c.if-room-eq0.false in omega arith)) c.rule_level.ensures.gives

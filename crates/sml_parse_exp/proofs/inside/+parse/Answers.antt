use Rattle.std.proofs.Common.{arith}
use Rattle.sml_parse_exp.proofs.Steps.{row_is, behind_and_is, behind_or_is, exp_is, dec_is}
use Rattle.sml_parse_exp.proofs.inside.+parse.Goals as goal

pub phrase-returns-in-Whole-clause-gives : goal.phrase-returns-in-Whole-clause-gives
phrase-returns-in-Whole-clause-gives t c = rw (c.in-Whole.is, exp_is c.args.scope.now c.args.room c.args.tokens.now (let some = c.if-room-eq0.false in omega arith)) c.whole.ensures.gives

pub phrase-returns-in-BehindAnd-clause-gives : goal.phrase-returns-in-BehindAnd-clause-gives
phrase-returns-in-BehindAnd-clause-gives t c = rw (c.in-BehindAnd.is, behind_and_is c.args.scope.now c.args.room c.args.tokens.now (let some = c.if-room-eq0.false in omega arith)) c.and_operand.ensures.gives

pub phrase-returns-in-BehindOr-clause-gives : goal.phrase-returns-in-BehindOr-clause-gives
phrase-returns-in-BehindOr-clause-gives t c = rw (c.in-BehindOr.is, behind_or_is c.args.scope.now c.args.room c.args.tokens.now (let some = c.if-room-eq0.false in omega arith)) c.or_operand.ensures.gives

pub phrase-returns-in-Row-clause-gives : goal.phrase-returns-in-Row-clause-gives
phrase-returns-in-Row-clause-gives t c = rw (c.in-Row.is, row_is c.args.scope.now c.args.room c.in-Row.floor c.args.tokens.now (let some = c.if-room-eq0.false in omega arith)) c.row.ensures.gives

pub dec-returns-clause-gives : goal.dec-returns-clause-gives
dec-returns-clause-gives t c = rw (dec_is c.args.scope.now c.args.room c.args.tokens.now (let some = c.if-room-eq0.false in omega arith)) c.declaration.ensures.gives

use Rattle.std.proofs.Common.{arith}
use Rattle.sml_fix.specs.Fixities.{settings}
use Rattle.sml_parse_pat.proofs.Rooms.{pat_is, row_is}
use Rattle.sml_parse_pat.proofs.inside.+phrase.Goals as goal

pub returns-in-Whole : goal.returns-in-Whole
returns-in-Whole t c = rw (c.in-Whole.is, pat_is (settings c.args.fix.now) c.args.room c.args.tokens.now (let some = c.if-room-eq0.false in omega arith)) c.whole.ensures

pub returns-in-Row : goal.returns-in-Row
returns-in-Row t c = rw (c.in-Row.is, row_is (settings c.args.fix.now) c.args.room c.in-Row.floor c.args.tokens.now (let some = c.if-room-eq0.false in omega arith)) c.row.ensures

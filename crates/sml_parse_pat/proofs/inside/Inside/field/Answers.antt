use Rattle.std.proofs.Common.{arith}
use Rattle.sml_fix.specs.Fixities.{settings}
use Rattle.sml_parse_pat.proofs.Rooms.{field_is}
use Rattle.sml_parse_pat.proofs.inside.Inside.field.Goals as goal

pub returns : goal.returns
returns g c = rw (field_is (settings c.args.self.now.fix.now) c.args.room c.args.tokens.now (let some = c.if-room-eq0.false in omega arith)) c.field_level.ensures

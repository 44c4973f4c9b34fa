use Rattle.std.proofs.Common.{sym, ◌∙◌, arith}
use Rattle.sml_parse_sig.proofs.Hands.{real_parts_are}
use Rattle.sml_parse_sig.proofs.real.level.Goals as goal

pub returns : goal.returns
returns c = rw (real_parts_are c.args.room c.args.tokens.now (sym c.begins_real.ensures ∙ c.if-not-begins_real.false) (let le = c.if-room-lt1.false in omega arith)) c.parts.ensures

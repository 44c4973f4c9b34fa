use Rattle.sml_parse_sig.proofs.Hands.{types_are}
use Rattle.sml_parse_sig.proofs.parts.types.Goals as goal

pub returns : goal.returns
returns c = rw (types_are c.args.room c.args.place c.args.tokens.now) c.types_parts.ensures

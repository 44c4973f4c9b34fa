use Rattle.sml_parse_sig.proofs.Hands.{values_are}
use Rattle.sml_parse_sig.proofs.parts.values.Goals as goal

pub returns : goal.returns
returns c = rw (values_are c.args.room c.args.tokens.now c.args.place) c.values_parts.ensures

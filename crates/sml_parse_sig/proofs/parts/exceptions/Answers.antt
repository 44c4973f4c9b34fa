use Rattle.sml_parse_sig.proofs.Hands.{exceptions_are}
use Rattle.sml_parse_sig.proofs.parts.exceptions.Goals as goal

pub returns : goal.returns
returns c = rw (exceptions_are c.args.room c.args.tokens.now c.args.place) c.exceptions_parts.ensures

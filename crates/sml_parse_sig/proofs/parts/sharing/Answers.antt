use Rattle.sml_parse_sig.proofs.Hands.{sharing_is}
use Rattle.sml_parse_sig.proofs.parts.sharing.Goals as goal

pub returns : goal.returns
returns c = rw (sharing_is c.args.place c.args.tokens.now) c.sharing_parts.ensures

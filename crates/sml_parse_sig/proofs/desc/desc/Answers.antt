use Rattle.sml_parse_sig.proofs.Steps.{desc_is}
use Rattle.sml_parse_sig.proofs.desc.desc.Goals as goal

pub returns : goal.returns
returns c = rw (desc_is c.args.room c.args.tokens.now) c.desc_parts.ensures

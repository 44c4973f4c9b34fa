use Rattle.sml_parse_sig.proofs.Steps.{named_is}
use Rattle.sml_parse_sig.proofs.desc.named.Goals as goal

pub returns : goal.returns
returns c = rw (named_is c.args.tokens.now) c.named_parts.ensures
